-- What a cut leaves: order, no version at or above the stamp lost, the answer is the length lost.
-- Every other proof about a cut uses these facts and does not look at the test.
use Rattle.std.proofs.Common.{◌≡◌, ℕ, ◌+◌, ◌≤◌, Bool, true, eqb, ltb, leb, List, [], ◌∷◌, length, filter, refl, arith}
use Rattle.std.proofs.lemmas.Bool.Decides.{nat_tests}
use Rattle.words.specs.declared.version.Version.{Version}
use Rattle.tables.specs.Versions.{ordered, stays, kept, cut_count, sinks, falls}

-- an order that can be chained
abbrev Chains : (ℕ → ℕ → Bool) → Type 0
Chains test = (a b c : ℕ) → test a b ≡ true → test b c ≡ true → test a c ≡ true

looser : (test : ℕ → ℕ → Bool) → Chains test → (m n : ℕ) → test m n ≡ true → (vs : List Version) → ordered test m vs ≡ true → ordered test n vs ≡ true
looser test chains m n le [] h = refl
looser test chains m n le (v ∷ vs) h = grind (arith, chains v.write m n)

filter_keeps : (test : ℕ → ℕ → Bool) → Chains test → (p : Version → Bool) (n : ℕ) (vs : List Version) → ordered test n vs ≡ true → ordered test n (filter p vs) ≡ true
filter_keeps test chains p n [] h = refl
filter_keeps test chains p n (v ∷ vs) h =
    grind (arith, filter_keeps test chains p v.write vs, looser test chains v.write n)

-- the order of stamps is kept, weak or strict
pub cut_keeps_sinking : (s : ℕ) (vs : List Version) → sinks vs ≡ true → sinks (kept s vs) ≡ true
cut_keeps_sinking s vs h = filter_keeps leb (λ a b c p q. grind (arith, nat_tests)) (stays s) _ vs h

ordered_falls : (n : ℕ) (vs : List Version) → ordered ltb n vs ≡ true → falls vs ≡ true
ordered_falls n [] h = refl
ordered_falls n (v ∷ vs) h = grind (arith, nat_tests)

pub cut_keeps_falling : (s : ℕ) (vs : List Version) → falls vs ≡ true → falls (kept s vs) ≡ true
cut_keeps_falling s [] h = refl
cut_keeps_falling s (v ∷ vs) h =
    let below = filter_keeps ltb (λ a b c p q. grind (arith, nat_tests)) (stays s) v.write vs h in
    grind (arith, below, ordered_falls v.write (kept s vs))

filter_length : (p : Version → Bool) (vs : List Version) → length (filter p vs) ≤ length vs
filter_length p [] = omega arith
filter_length p (v ∷ vs) = grind (arith, filter_length p vs)

-- the answer is the length lost
pub cut_counts : (s : ℕ) (vs : List Version) → length (kept s vs) + cut_count s vs ≡ length vs
cut_counts s vs = omega (arith, filter_length (stays s) vs)

-- the versions of one stamp
abbrev pub stamped : ℕ → List Version → List Version
stamped r vs = filter (λ v. eqb v.write r) vs

-- nothing at or above the stamp of the cut is lost
pub cut_keeps_above : (s r : ℕ) → s ≤ r → (vs : List Version) → stamped r (kept s vs) ≡ stamped r vs
cut_keeps_above s r le [] = refl
cut_keeps_above s r le (v ∷ vs) = grind (arith, nat_tests, cut_keeps_above s r le vs)
