-- Which stamps a list holds.
use Rattle.std.proofs.Common.{◌≡◌, ℕ, false, ◌||◌, List, [], ◌∷◌, ◌++◌, refl, arith}
use Rattle.std.proofs.lemmas.Bool.Decides.{nat_tests}
use Rattle.words.specs.declared.version.Version.{Version}
use Rattle.tables.specs.Versions.{holds, holds_pending}

pub holds_append : (s : ℕ) (us vs : List Version) → holds s (us ++ vs) ≡ (holds s us || holds s vs)
holds_append s [] vs = refl
holds_append s (u ∷ us) vs = grind (arith, nat_tests, holds_append s us vs)

-- a stamp that is not there is not pending
pub none_pending : (s : ℕ) (vs : List Version) → holds s vs ≡ false → holds_pending s vs ≡ false
none_pending s [] h = refl
none_pending s (v ∷ vs) h = grind (arith, nat_tests, none_pending s vs)
