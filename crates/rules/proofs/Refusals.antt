-- A refused call leaves the model as it is.
use Rattle.std.proofs.Common.{ℕ}
use Rattle.rules.specs.declared.call.Call.{Call}
use Rattle.rules.specs.Model.{Model}
use Rattle.rules.specs.Rules.{outcome}
use Rattle.rules.specs.Refused.{Unchanged}
use Rattle.rules.proofs.Explained.{explained}

pub refused_unchanged : (free : ℕ → ℕ) (m : Model) (call : Call) → Unchanged m (outcome free m call)
refused_unchanged free m call n d e = (explained free m call n d e).0
