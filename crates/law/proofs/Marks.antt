-- What commit and abort make of the lists, by stamps: every version of the pass ends, and no other.
use Rattle.std.proofs.Common.{◌≡◌, ℕ, suc, ◌<◌, true, false, cond, ◌&&◌, eqb, List, [], ◌∷◌, is_some, Some, None, Option, refl, ap, ◌∙◌, subst, ⊎_elim, arith, eqb-true}
use Rattle.std.proofs.lemmas.Bool.{cases_eq, cases_Bool}
use Rattle.std.proofs.lemmas.Bool.Decides.{nat_tests}
use Rattle.words.specs.declared.status.Status.TheVariants.{Pending}
use Rattle.words.specs.declared.status.Ending.{Ending}
use Rattle.words.specs.declared.version.Version.{Version}
use Rattle.tables.specs.Table.{put}
use Rattle.tables.specs.Versions.{at_stamp, marked}
use Rattle.rules.specs.declared.entry.WriteEntry.{WriteEntry}
use Rattle.rules.specs.Sets.{nth}
use Rattle.rules.specs.Rules.{ended_one, ended_all}
use Rattle.law.proofs.State.{value_in, Apart}
use Rattle.law.proofs.Under.{under, change, under_changed, pending_under}

-- an entry that a set has stands at some place
value_nth : (ws : List WriteEntry) (c v : ℕ) → value_in ws c ≡ Some v → (j : ℕ) × ((e : WriteEntry) × (nth ws j ≡ Some e) × (e.cell ≡ c))
value_nth [] c v h = absurd (grind arith)
value_nth (e ∷ es) c v h = ⊎_elim
    (λ (b : eqb e.cell c ≡ true). (0, (e, refl, eqb-true e.cell c b)))
    (λ (b : eqb e.cell c ≡ false). let r = value_nth es c v (grind arith) in (suc r.0, (r.1.0, let z = r.1.1 in grind arith, r.1.2)))
    (cases_Bool (eqb e.cell c))

-- no cell comes twice, entry by entry
apart_first : (e : WriteEntry) (es : List WriteEntry) → Apart (e ∷ es) → value_in es e.cell ≡ None
apart_first e es apart = by (value_in es e.cell) refl
  where
    by : (o : Option ℕ) → value_in es e.cell ≡ o → o ≡ None
    by None h = refl
    by (Some v) h =
        let r = value_nth es e.cell v h in
        let z = apart (suc r.0) r.1.0 (let y = r.1.1 in grind arith) in
        let w = r.1.2 in absurd (grind arith)

apart_rest : (e : WriteEntry) (es : List WriteEntry) → Apart (e ∷ es) → Apart es
apart_rest e es apart j f h = let z = apart (suc j) f (grind arith) in grind arith

-- what is to be marked: cells that are there, and their version of the stamp t pending
abbrev pub Markable : ℕ → ℕ → (ℕ → List Version) → List WriteEntry → Type 0
Markable cells t ls ws = (c v : ℕ) → value_in ws c ≡ Some v → (c < cells) × ((x : Version) × (under t (ls c) ≡ Some x) × (x.status ≡ Pending))

module _ (how : Ending) (cells t : ℕ) where
  -- one mark
  one_marked : (ls : ℕ → List Version) (e : WriteEntry) (x : Version) → e.cell < cells → under t (ls e.cell) ≡ Some x → x.status ≡ Pending
      → (c : ℕ) → ended_one how cells t ls e c ≡ put ls e.cell (at_stamp t (marked how) (ls e.cell)) c
  one_marked ls e x in' here still c = grind (arith, nat_tests, pending_under)

  -- all marks of a pass
  pub all_marked : (ws : List WriteEntry) (ls : ℕ → List Version) → Apart ws → Markable cells t ls ws
      → (c u : ℕ) → under u (ended_all how cells t ls ws c) ≡ cond (eqb t u && is_some (value_in ws c)) (change (marked how) (under u (ls c))) (under u (ls c))
  all_marked [] ls apart able c u = grind arith
  all_marked (e ∷ es) ls apart able c u = step (all_marked es (ended_one how cells t ls e) (apart_rest e es apart) later c u)
    where
      mine : (e.cell < cells) × ((x : Version) × (under t (ls e.cell) ≡ Some x) × (x.status ≡ Pending))
      mine = able e.cell e.value (grind arith)

      now : (d : ℕ) → ended_one how cells t ls e d ≡ put ls e.cell (at_stamp t (marked how) (ls e.cell)) d
      now d = one_marked ls e mine.1.0 mine.0 mine.1.1 mine.1.2 d

      alone : value_in es e.cell ≡ None
      alone = apart_first e es apart

      elsewhere : (d : ℕ) → (d ≡ e.cell → ⊥) → ended_one how cells t ls e d ≡ ls d
      elsewhere d n = now d ∙ (grind arith)

      later : Markable cells t (ended_one how cells t ls e) es
      later d v h = ⊎_elim
          (λ (q : d ≡ e.cell). absurd (let z = alone in let y = subst (λ d. value_in es d ≡ Some v) q h in grind arith))
          (λ (n : d ≡ e.cell → ⊥).
          let r = able d v (grind arith) in
          (r.0, (r.1.0, ap (under t) (elsewhere d n) ∙ r.1.1, r.1.2)))
          (cases_eq d e.cell)

      step : under u (ended_all how cells t (ended_one how cells t ls e) es c) ≡ cond (eqb t u && is_some (value_in es c)) (change (marked how) (under u (ended_one how cells t ls e c))) (under u (ended_one how cells t ls e c))
          → under u (ended_all how cells t (ended_one how cells t ls e) es c) ≡ cond (eqb t u && is_some (value_in (e ∷ es) c)) (change (marked how) (under u (ls c))) (under u (ls c))
      step ih = grind (arith, nat_tests, now, under_changed)
