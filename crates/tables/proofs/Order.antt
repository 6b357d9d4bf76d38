-- The order of write stamps along a list, and that insert, raise, mark and cut keep it.
use Rattle.std.proofs.Common.{◌≡◌, ℕ, ◌<◌, ◌≤◌, Bool, true, false, ltb, leb, List, [], ◌∷◌, refl, arith}
use Rattle.std.proofs.lemmas.Bool.Decides.{nat_tests}
use Rattle.words.specs.declared.version.Version.{Version}
use Rattle.tables.specs.Versions.{ordered, falls, holds, with_version, at_stamp}

-- a change of one version that keeps its stamp keeps the order
pub ordered_at_stamp : (test : ℕ → ℕ → Bool) (s : ℕ) (f : Version → Version) → ((v : Version) → (f v).write ≡ v.write) → (n : ℕ) (vs : List Version) → ordered test n (at_stamp s f vs) ≡ ordered test n vs
ordered_at_stamp test s f same n [] = refl
ordered_at_stamp test s f same n (v ∷ vs) = grind (arith, nat_tests, same v, ordered_at_stamp test s f same v.write vs)

-- insert, where equal stamps are let in
pub sinks_with : (n : ℕ) (v : Version) (vs : List Version) → v.write ≤ n → ordered leb n vs ≡ true → ordered leb n (with_version v vs) ≡ true
sinks_with n v [] le h = grind (arith, nat_tests)
sinks_with n v (w ∷ ws) le h = grind (arith, nat_tests, sinks_with w.write v ws)

-- insert, where the stamp is not there yet
below_with : (n : ℕ) (v : Version) (vs : List Version) → v.write < n → holds v.write vs ≡ false → ordered ltb n vs ≡ true → ordered ltb n (with_version v vs) ≡ true
below_with n v [] lt new h = grind (arith, nat_tests)
below_with n v (w ∷ ws) lt new h = grind (arith, nat_tests, below_with w.write v ws)

pub falls_with : (v : Version) (vs : List Version) → holds v.write vs ≡ false → falls vs ≡ true → falls (with_version v vs) ≡ true
falls_with v [] new h = refl
falls_with v (w ∷ ws) new h = grind (arith, nat_tests, below_with w.write v ws)

pub falls_at_stamp : (s : ℕ) (f : Version → Version) → ((v : Version) → (f v).write ≡ v.write) → (vs : List Version) → falls vs ≡ true → falls (at_stamp s f vs) ≡ true
falls_at_stamp s f same [] h = refl
falls_at_stamp s f same (v ∷ vs) h = grind (arith, nat_tests, same v, ordered_at_stamp ltb s f same v.write vs)
