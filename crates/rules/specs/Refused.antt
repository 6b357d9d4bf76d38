-- A refused call leaves the model as it is.
use Rattle.std.specs.Prelude.{◌≡◌, ℕ}
use Rattle.words.specs.Outcome.{refused}
use Rattle.rules.specs.declared.call.Call.{Call}
use Rattle.rules.specs.Model.{Model}
use Rattle.rules.specs.Rules.{Done, outcome}

-- whatever the refusal, the model is m
abbrev pub Unchanged : Model → Done → Type 0
Unchanged m done = (n d : ℕ) → done.0 ≡ refused n d → done.1 ≡ m

abbrev pub RefusalsChangeNothing : Type 0
RefusalsChangeNothing = (free : ℕ → ℕ) (m : Model) (call : Call) → Unchanged m (outcome free m call)
