use Rattle.std.proofs.Common.{arith}
use Rattle.spare.proofs.Beside.{length_both}
use Rattle.spare.proofs.layer.SpareLayerVersionTable.length.Goals as goal

pub returns : goal.returns
returns g c = grind (arith, length_both)
