-- A refused call is refused by itself or because a search or an insert is.
use Rattle.std.proofs.Common.{◌≡◌, ℕ, refl, subst, arith}
use Rattle.words.specs.Outcome.{refused}
use Rattle.rules.specs.declared.call.Call.{Call}
use Rattle.rules.specs.Model.{Model}
use Rattle.rules.specs.Rules.{Done, outcome}
use Rattle.rules.proofs.Ways.{Why, every_way}

module _ (free : ℕ → ℕ) (m : Model) where
  abbrev Explained : Call → Done → Type 0
  Explained call done = (n d : ℕ) → done.0 ≡ refused n d → (done.1 ≡ m) × Why free m call n d

  refusing : (call : Call) (n d : ℕ) → Why free m call n d → Explained call (refused n d, m)
  refusing call n d why i j e = (refl, subst (λ i. Why free m call i j) (let p : n ≡ i = cc in p) (subst (λ j. Why free m call n j) (let p : d ≡ j = cc in p) why))

  pub explained : (call : Call) → Explained call (outcome free m call)
  explained = every_way free m Explained refusing (grind arith)
