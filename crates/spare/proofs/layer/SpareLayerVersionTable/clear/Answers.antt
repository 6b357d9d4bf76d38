use Rattle.std.proofs.Common.{rules}
use Rattle.spare.proofs.Layered.{layered_clear}
use Rattle.spare.proofs.layer.SpareLayerVersionTable.clear.Goals as goal

pub returns-clause-after : goal.returns-clause-after
returns-clause-after g c = search (rules, layered_clear)
