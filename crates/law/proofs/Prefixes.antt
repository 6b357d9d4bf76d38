-- Parts of sets, and the one entry that is found.
use Rattle.std.proofs.Common.{◌≡◌, ℕ, zero, suc, ◌<◌, ◌≤◌, true, false, cond, eqb, ◌⊎◌, List, [], ◌∷◌, length, take, Some, None, inl, inr, ⊎_elim, arith}
use Rattle.std.proofs.lemmas.Bool.{cases_Bool}
use Rattle.std.proofs.lemmas.Bool.Decides.{nat_tests}
use Rattle.rules.specs.declared.entry.WriteEntry.{WriteEntry}
use Rattle.rules.specs.Sets.{nth}
use Rattle.law.proofs.State.{value_in}

pub some_same : {A : Type 0} (a b : A) → Some a ≡ Some b → a ≡ b
some_same a b e = cc

-- what stands in a part stands in a longer one
pub value_longer : (m n : ℕ) (ws : List WriteEntry) (c v : ℕ) → m ≤ n → value_in (take m ws) c ≡ Some v → value_in (take n ws) c ≡ Some v
value_longer zero n ws c v le h = grind arith
value_longer (suc m) zero ws c v le h = absurd (omega arith)
value_longer (suc m) (suc n) [] c v le h = h
value_longer (suc m) (suc n) (e ∷ es) c v le h = grind (arith, nat_tests, value_longer m n es c v)

pub value_part : (n : ℕ) (ws : List WriteEntry) (c v : ℕ) → value_in (take n ws) c ≡ Some v → value_in ws c ≡ Some v
value_part zero ws c v h = grind arith
value_part (suc n) [] c v h = h
value_part (suc n) (e ∷ es) c v h = grind (arith, nat_tests, value_part n es c v)

-- one entry more
pub value_next : (n : ℕ) (ws : List WriteEntry) (e : WriteEntry) (c : ℕ) → nth ws n ≡ Some e → value_in (take n ws) e.cell ≡ None → value_in (take (suc n) ws) c ≡ cond (eqb e.cell c) (Some e.value) (value_in (take n ws) c)
value_next zero [] e c h new = grind arith
value_next zero (f ∷ fs) e c h new = grind arith
value_next (suc n) [] e c h new = grind arith
value_next (suc n) (f ∷ fs) e c h new = grind (arith, nat_tests, value_next n fs e c)

-- one entry stands at a place
pub nth_same : {A : Type 0} (xs : List A) (i j : ℕ) (x y : A) → nth xs i ≡ Some x → nth xs j ≡ Some y → i ≡ j → x ≡ y
nth_same xs i j x y p q e = cc

pub nth_short : {A : Type 0} (xs : List A) (j : ℕ) (x : A) → nth xs j ≡ Some x → j < length xs
nth_short [] j x h = grind arith
nth_short (y ∷ ys) zero x h = omega arith
nth_short (y ∷ ys) (suc j) x h = grind (arith, nat_tests, nth_short ys j x)

pub value_step : (n : ℕ) (ws : List WriteEntry) (c v : ℕ) → value_in (take (suc n) ws) c ≡ Some v → (value_in (take n ws) c ≡ Some v) ⊎ ((e : WriteEntry) × (nth ws n ≡ Some e) × (e.cell ≡ c))
value_step n [] c v h = absurd (grind arith)
value_step zero (f ∷ fs) c v h = grind arith
value_step (suc n) (f ∷ fs) c v h = ⊎_elim
    (λ (b : eqb f.cell c ≡ true). inl (grind arith))
    (λ (b : eqb f.cell c ≡ false). ⊎_elim (λ a. inl (grind arith)) (λ a. inr (a.0, let z = a.1 in grind arith, a.2)) (value_step n fs c v (grind arith)))
    (cases_Bool (eqb f.cell c))
