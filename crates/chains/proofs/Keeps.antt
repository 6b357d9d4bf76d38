-- A store whose links follow given paths, and whose paths hold each used record once, is kept; its
-- paths are the given ones.
use Rattle.std.proofs.Common.{◌≡◌, ℕ, suc, ◌<◌, ◌≤◌, true, cond, ltb, List, [], ◌∷◌, length, None, Option, refl, ap, ◌∙◌, subst, ⊎_elim, arith}
use mathlib.Core.Path.{fun_ext}
use Rattle.std.proofs.lemmas.Bool.{cases_lt}
use Rattle.std.proofs.lemmas.Bool.Decides.{nat_tests}
use Rattle.chains.specs.Chain.{good}
use Rattle.chains.specs.Store.{Store, link, path_of}
use Rattle.chains.specs.Kept.{count, sum, Ends, Tallied, Full, Kept}
use Rattle.chains.proofs.Sums.{sum_one, sum_two}
use Rattle.chains.proofs.Paths.{Linked, linked, linked_ends}

-- the links of a kept store follow its paths
pub follows : {s : Store} → Kept s → (q : ℕ) → Linked (length s.records) s.records (link s q) (path_of s q)
follows {s} k q = linked (length s.records) (length s.records) s.records (link s q) (k.ends q)

pub record Pathed (s : Store) (P : ℕ → List ℕ) : Type 0 where
  pub paths : path_of s ≡ P
  pub ends : Ends s
  pub tallied : Tallied s
  pub full : Full s

-- no chain has a number above that of the free one
no_link : (s : Store) (q : ℕ) → s.cells < q → link s q ≡ None
no_link s q l = grind (arith, nat_tests)

none_linked : (u : ℕ) (s : Store) (p : List ℕ) → Linked u s.records None p → p ≡ []
none_linked u s [] h = refl
none_linked u s (j ∷ p) h = cc h.0

beyond_empty : (s : Store) (p : List ℕ) (q : ℕ) → s.cells < q → Linked (length s.records) s.records (link s q) p → p ≡ []
beyond_empty s p q l h = none_linked (length s.records) s p (subst (λ (z : Option ℕ). Linked (length s.records) s.records z p) (no_link s q l) h)

module _ (s : Store) (P : ℕ → List ℕ) (lent : s.used ≤ length s.records) (led : (q : ℕ) → Linked (length s.records) s.records (link s q) (P q)) (once : (j : ℕ) → sum (suc s.cells) (λ q. count j (P q)) ≡ cond (ltb j s.used) 1 0) (all : sum (suc s.cells) (λ q. length (P q)) ≡ s.used) where
  short : (q : ℕ) → length (P q) ≤ length s.records
  short q =
      ⊎_elim
      (λ (l : s.cells < q). omega (arith, ap length (beyond_empty s (P q) q l (led q))))
      (λ l. omega (arith, sum_one (suc s.cells) (λ a. length (P a)) q (omega arith)))
      (cases_lt s.cells q)

  settled : (q : ℕ) → (good s.records (link s q) ≡ true) × (path_of s q ≡ P q)
  settled q = linked_ends (length s.records) (length s.records) s.records (link s q) (P q) (led q) (short q)

  pub pathed : Pathed s P
  pathed =
      let same : path_of s ≡ P = fun_ext (λ q. (settled q).1) in
      record {
        paths = same;
        ends = λ q. (settled q).0;
        tallied = λ j. ap (λ (F : ℕ → List ℕ). sum (suc s.cells) (λ q. count j (F q))) same ∙ once j;
        full = ap (λ (F : ℕ → List ℕ). sum (suc s.cells) (λ q. length (F q))) same ∙ all;
      }

-- a record that stands in one chain stands there once, is one of those used, and is in no other
module _ {s : Store} (k : Kept s) (a j : ℕ) (in' : a ≤ s.cells) (here : 1 ≤ count j (path_of s a)) where
  once : (sum (suc s.cells) (λ q. count j (path_of s q)) ≡ 1) × (j < s.used)
  once =
      let t = k.tallied j in
      let one = sum_one (suc s.cells) (λ q. count j (path_of s q)) a (omega arith) in
      grind (arith, nat_tests)

  pub within : j < s.used
  within = once.1

  pub stands_once : count j (path_of s a) ≡ 1
  stands_once = omega (arith, once.0, sum_one (suc s.cells) (λ q. count j (path_of s q)) a (omega arith))

  pub nowhere_else : (q : ℕ) → (q ≡ a → ⊥) → count j (path_of s q) ≡ 0
  nowhere_else q ne =
      ⊎_elim
      (λ (l : s.cells < q). ap (count j) (beyond_empty s (path_of s q) q l (follows k q)))
      (λ l. omega (arith, once.0, sum_two (suc s.cells) (λ b. count j (path_of s b)) q a (omega arith) (omega arith) ne))
      (cases_lt s.cells q)
