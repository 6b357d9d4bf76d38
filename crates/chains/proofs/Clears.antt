-- The memory of a cleared table: each cell has one record, and the others are free, in order.
use Rattle.std.proofs.Common.{leb, ◌&&◌, Bool, true, false, ◌≡◌, ℕ, zero, suc, ◌+◌, ◌-◌, ◌<◌, ◌≤◌, cond, eqb, ltb, List, [], ◌∷◌, map, length, get_or, Some, None, Option, sym, refl, ap, ◌∙◌, ⊎_elim, arith}
use Rattle.std.specs.Bool.{then_some}
use Rattle.std.specs.List.{range_with_len}
use Rattle.std.proofs.lemmas.List.FromFn.{length-range_with_len}
use mathlib.Core.Path.{subst⁻¹, fun_ext}
use Rattle.std.proofs.lemmas.Bool.{cases_lt, cases_eq, lt-ltb, le-ltb, eq-eqb, ne_eqb}
use Rattle.std.proofs.lemmas.Bool.Decides.{nat_tests}
use Rattle.words.specs.declared.version.Version.{Version}
use Rattle.tables.specs.Versions.{sinks}
use Rattle.tables.specs.Table.{cleared}
use Rattle.chains.specs.declared.record.Record.{Record}
use Rattle.chains.specs.Chain.{blank, next_of, version_of}
use Rattle.chains.specs.Store.{Store, link, list, cleared_record}
use Rattle.chains.specs.Kept.{count, sum, Sized, Kept}
use Rattle.chains.proofs.Sums.{sum_same}
use Rattle.chains.proofs.Paths.{Linked}
use Rattle.chains.proofs.Keeps.{Pathed, pathed}

some_if : (b : Bool) (x : ℕ) → then_some b x ≡ cond b (Some x) None
some_if true x = refl
some_if false x = refl

range_count : (n a j : ℕ) → count j (range_with_len a n) ≡ cond (leb a j && ltb j (a + n)) 1 0
range_count zero a j = grind (arith, nat_tests)
range_count (suc n) a j = grind (arith, nat_tests, range_count n (a + 1) j)

-- each cell's own record is counted once
own_count : (n j : ℕ) → sum n (λ q. count j (q ∷ [])) ≡ cond (ltb j n) 1 0
own_count zero j = grind (arith, nat_tests)
own_count (suc n) j = grind (arith, nat_tests, own_count n j)

own_length : (n : ℕ) → sum n (λ q. length (q ∷ [])) ≡ n
own_length zero = refl
own_length (suc n) = omega (arith, own_length n)

-- all that is said of a clear
pub record ClearDone (s : Store) : Type 0 where
  pub kept : Kept s
  pub lists : list s ≡ cleared s.cells

module _ (s : Store) (sized : Sized s) (heads : (k : ℕ) → k < s.cells → get_or s.heads k None ≡ Some k) (records : (k : ℕ) → k < s.used → get_or s.records k blank ≡ cleared_record s.cells s.used k) (free : s.free ≡ then_some (ltb s.cells s.used) s.cells) (counted : s.count ≡ s.used - s.cells) where
  abbrev L : ℕ
  L = length s.records

  abbrev paths : ℕ → List ℕ
  paths q = cond (ltb q s.cells) (q ∷ []) (cond (eqb q s.cells) (range_with_len s.cells (s.used - s.cells)) [])

  next_at : (k : ℕ) → k < s.used → next_of s.records k ≡ cond (ltb k s.cells) None (cond (ltb (k + 1) s.used) (Some (k + 1)) None)
  next_at k l = ap (λ (r : Record). r.next) (records k l)

  free_led : (n a : ℕ) → a + n ≡ s.used → s.cells ≤ a → Linked L s.records (cond (ltb a s.used) (Some a) None) (range_with_len a n)
  free_led zero a e l = simp (le-ltb a s.used (omega arith))
  free_led (suc n) a e l =
      let on : next_of s.records a ≡ cond (ltb (a + 1) s.used) (Some (a + 1)) None = next_at a (omega arith) ∙ simp (le-ltb a s.cells l) in
      (simp (lt-ltb a s.used (omega arith)), omega arith, subst⁻¹ (λ (z : Option ℕ). Linked L s.records z (range_with_len (a + 1) n)) on (free_led n (a + 1) (omega arith) (omega arith)))

  led : (q : ℕ) → Linked L s.records (link s q) (paths q)
  led q =
      ⊎_elim
      (λ (l : q < s.cells). simp (lt-ltb q s.cells l) (heads q l, omega arith, next_at q (omega arith) ∙ simp (lt-ltb q s.cells l)))
      (λ l. ⊎_elim
      (λ (e : q ≡ s.cells). simp (le-ltb q s.cells l, eq-eqb q s.cells e) (subst⁻¹ (λ (z : Option ℕ). Linked L s.records z (range_with_len s.cells (s.used - s.cells))) (free ∙ some_if (ltb s.cells s.used) s.cells) (free_led (s.used - s.cells) s.cells (omega arith) (omega arith))))
      (λ ne. simp (le-ltb q s.cells l, ne_eqb q s.cells ne) refl)
      (cases_eq q s.cells))
      (cases_lt q s.cells)

  last : paths s.cells ≡ range_with_len s.cells (s.used - s.cells)
  last = simp (le-ltb s.cells s.cells (omega arith), eq-eqb s.cells s.cells refl)

  -- a number counted along the paths: once for each cell's own record, and along the free ones
  summed : (f : List ℕ → ℕ) → sum (suc s.cells) (λ q. f (paths q)) ≡ f (range_with_len s.cells (s.used - s.cells)) + sum s.cells (λ q. f (q ∷ []))
  summed f =
      let own = sum_same s.cells (λ q. f (paths q)) (λ q. f (q ∷ [])) (λ q l. ap (λ b. f (cond b (q ∷ []) (cond (eqb q s.cells) (range_with_len s.cells (s.used - s.cells)) []))) (lt-ltb q s.cells l)) in
      omega (arith, own, ap f last)

  once : (j : ℕ) → sum (suc s.cells) (λ q. count j (paths q)) ≡ cond (ltb j s.used) 1 0
  once j =
      let whole = summed (count j) in
      let own = own_count s.cells j in
      let others = range_count (s.used - s.cells) s.cells j in
      grind (arith, nat_tests)

  all : sum (suc s.cells) (λ q. length (paths q)) ≡ s.used
  all = omega (arith, summed length, own_length s.cells, length-range_with_len s.cells (s.used - s.cells))

  done : Pathed s paths
  done = pathed s paths sized.lent led once all

  lists : list s ≡ cleared s.cells
  lists =
      fun_ext (λ c.
      let along_c = ap (λ (F : ℕ → List ℕ). map (version_of s.records) (F c)) done.paths in
      let own = λ (l : c < s.used). ap (λ (r : Record). r.version) (records c l) in
      grind (arith, nat_tests))

  pub clears : ClearDone s
  clears =
      record {
        kept = record {
          ends = done.ends;
          tallied = done.tallied;
          full = done.full;
          counted = counted ∙ sym (ap (λ (F : ℕ → List ℕ). length (F s.cells)) done.paths ∙ ap length last ∙ length-range_with_len s.cells (s.used - s.cells));
          sinking = λ c. ap (λ (f : ℕ → List Version). sinks (f c)) lists ∙ grind (arith, nat_tests);
          sized = sized;
        };
        lists = lists;
      }
