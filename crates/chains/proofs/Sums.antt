-- Sums over chains, and what a tally of one tells: a record that stands in one chain stands in no
-- other.
use Rattle.std.proofs.Common.{◌≡◌, ℕ, zero, suc, ◌+◌, ◌<◌, ◌≤◌, List, [], ◌∷◌, ◌++◌, refl, arith}
use Rattle.std.proofs.lemmas.Bool.Decides.{nat_tests}
use Rattle.tables.specs.Table.{put}
use Rattle.chains.specs.Kept.{count, sum}

pub count_append : (j : ℕ) (p q : List ℕ) → count j (p ++ q) ≡ count j p + count j q
count_append j [] q = omega arith
count_append j (i ∷ p) q = omega (arith, count_append j p q)

pub sum_same : (n : ℕ) (f g : ℕ → ℕ) → ((q : ℕ) → q < n → f q ≡ g q) → sum n f ≡ sum n g
sum_same zero f g e = refl
sum_same (suc n) f g e = omega (arith, e n (omega arith), sum_same n f g (λ q l. e q (omega arith)))

-- one term replaced
sum_put_out : (n : ℕ) (f : ℕ → ℕ) (a x : ℕ) → n ≤ a → sum n (put f a x) ≡ sum n f
sum_put_out n f a x le = sum_same n (put f a x) f (λ q l. grind (arith, nat_tests))

pub sum_put : (n : ℕ) (f : ℕ → ℕ) (a x : ℕ) → a < n → sum n (put f a x) + f a ≡ sum n f + x
sum_put zero f a x l = absurd (omega arith)
sum_put (suc n) f a x l = grind (arith, nat_tests, sum_put n f a x, sum_put_out n f a x)

-- a sum is at least each of its terms, and at least two of them together
pub sum_one : (n : ℕ) (f : ℕ → ℕ) (a : ℕ) → a < n → f a ≤ sum n f
sum_one n f a l = omega (arith, sum_put n f a 0 l)

pub sum_two : (n : ℕ) (f : ℕ → ℕ) (a b : ℕ) → a < n → b < n → (a ≡ b → ⊥) → f a + f b ≤ sum n f
sum_two n f a b l m ne =
    let other : put f a 0 b ≡ f b = grind (arith, nat_tests) in
    omega (arith, sum_put n f a 0 l, sum_one n (put f a 0) b m)

-- a path's first position counts once more than in the rest
pub count_first : (j : ℕ) (p : List ℕ) → count j (j ∷ p) ≡ count j p + 1
count_first j p = grind (arith, nat_tests)
