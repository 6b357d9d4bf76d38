-- One turn of the search along a list: what is left gives what the whole gives.
use Rattle.std.proofs.Common.{◌≡◌, ℕ, zero, suc, ◌+◌, ◌<◌, ◌≤◌, ◌^◌, Bool, true, false, cond, ltb, List, [], ◌∷◌, length, get_or, take, drop, refl, ap, ◌∙◌, add-one, arith, lt-ltb, Option, Result}
use Rattle.std.proofs.lemmas.List.{at_drop_all, length-take}
use Rattle.std.proofs.lemmas.Bool.Decides.{nat_tests}
use Rattle.words.specs.Outcome.{Outcome, accepted, refused, refuse}
use Rattle.words.specs.Version.{absent}
use Rattle.words.specs.declared.refusal.Refusal.{Refusal}
use Rattle.words.specs.declared.refusal.Refusal.TheVariants.{NoVersion}
use Rattle.words.specs.declared.version.Version.{Version}
use Rattle.tables.specs.Table.{Table, version_answer}
use Rattle.rules.specs.Search.{reach}
use Rattle.searches.specs.declared.sought.Sought.{Sought}
use Rattle.searches.specs.declared.sought.Sought.TheVariants.{Visible, Newest, NewestBelow}
use Rattle.searches.specs.Judge.{looks_for, judged, left, turned}

-- the version at a place of what a search looks at
reach_step : (n i : ℕ) (vs : List Version) → i < n → drop i (take n vs) ≡ cond (ltb i (length vs)) (get_or vs i absent ∷ drop (suc i) (take n vs)) []
reach_step zero i vs h = absurd (omega arith)
reach_step (suc n) zero [] h = refl
reach_step (suc n) zero (v ∷ vs) h = grind (arith, nat_tests)
reach_step (suc n) (suc i) [] h = grind (arith, nat_tests)
reach_step (suc n) (suc i) (v ∷ vs) h = let r = reach_step n i vs (omega arith) in grind (arith, nat_tests)

judge_step : (s : Sought) (v : Version) (vs : List Version) → looks_for s (v ∷ vs) ≡ turned (judged s v) (looks_for s vs)
judge_step (Visible s) v vs = grind (arith, nat_tests)
judge_step Newest v vs = grind (arith, nat_tests)
judge_step (NewestBelow s) v vs = grind (arith, nat_tests)

none_left : (s : Sought) → looks_for s [] ≡ refuse NoVersion
none_left (Visible s) = refl
none_left Newest = refl
none_left (NewestBelow s) = refl

-- what an answer comes to: k of the version, or the refusal
abbrev of : Outcome Version → (Version → Outcome Version) → Outcome Version
of (accepted v) k = k v
of (refused n d) k = refused n d

module _ (t : Table) (c i : ℕ) (s : Sought) (low : i < 2 ^ 64) where
  here : drop i (reach (t.versions c)) ≡ cond (ltb i (length (t.versions c))) (get_or (t.versions c) i absent ∷ drop (suc i) (reach (t.versions c))) []
  here = reach_step (2 ^ 64) i (t.versions c) low

  left_is : left t c s i ≡ of (version_answer t c i) (λ v. turned (judged s v) (left t c s (i + 1)))
  left_is = by (ltb c t.cells) (ltb i (length (t.versions c))) refl refl
    where
      by : (a b : Bool) → ltb c t.cells ≡ a → ltb i (length (t.versions c)) ≡ b → left t c s i ≡ of (version_answer t c i) (λ v. turned (judged s v) (left t c s (i + 1)))
      by false b p q = rw p refl
      by true true p q = rw (p, q, add-one) (ap (looks_for s) (here ∙ rw q) ∙ judge_step s (get_or (t.versions c) i absent) (drop (suc i) (reach (t.versions c))))
      by true false p q = rw (p, q) (ap (looks_for s) (here ∙ rw q) ∙ none_left s)

  pub turn_refused : (e : Refusal) → refuse e ≡ version_answer t c i → left t c s i ≡ refuse e
  turn_refused e h = rw (left_is, ← h) refl

  pub turn_judged : (v : Version) (r : Result (Option Version) Refusal) → accepted v ≡ version_answer t c i → r ≡ judged s v → left t c s i ≡ turned r (left t c s (i + 1))
  turn_judged v r h is = rw (is, left_is, ← h) refl

  -- a version that was asked for is of a cell that is there
  pub cell_there : (v : Version) → accepted v ≡ version_answer t c i → c < t.cells
  cell_there v e = grind (arith, nat_tests)

-- past the last position
pub turn_none : (t : Table) (c i : ℕ) (s : Sought) → 2 ^ 64 ≤ i → c < t.cells → left t c s i ≡ refuse NoVersion
turn_none t c i s le there = rw (lt-ltb c t.cells there) (at_drop_all (looks_for s) (reach (t.versions c)) i (let z = length-take (2 ^ 64) (t.versions c) in omega arith) ∙ none_left s)
