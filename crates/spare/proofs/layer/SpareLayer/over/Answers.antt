use Rattle.std.proofs.Common.{ℕ, Option, ap}
use Rattle.words.specs.declared.version.Version.{Version}
use Rattle.spare.specs.Spare.{layered}
use Rattle.spare.proofs.layer.SpareLayer.over.Goals as goal

pub returns : goal.returns
returns g c = ap (λ (spares : ℕ → Option Version). layered spares (g.T.VersionTable.meaning c.args.below.now)) c.none.ensures
