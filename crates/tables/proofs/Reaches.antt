-- From clear on, whatever calls are made, write stamps fall strictly along every list.
use Rattle.std.proofs.Common.{◌≡◌, ℕ, true, false, List, refl, ap, ◌∙◌, ⊎_elim, arith}
use mathlib.Core.Path.{subst⁻¹}
use Rattle.std.proofs.lemmas.Bool.{cases_eq}
use Rattle.std.proofs.lemmas.Bool.Decides.{nat_tests}
use Rattle.words.specs.Outcome.{Outcome, accepted, refused}
use Rattle.words.specs.declared.version.Version.{Version}
use Rattle.tables.specs.declared.call.TableCall.{TableCall}
use Rattle.tables.specs.declared.call.TableCall.TheVariants.{Clear, Cells, FreePlaces, Length, Version as VersionAt, Insert, Raise, Mark, Cut as CutAt}
use Rattle.words.specs.Version.{new_version}
use Rattle.tables.specs.Versions.{holds, falls, raised, marked}
use Rattle.tables.specs.Table.{Table, Cleared, Only, Inserted, Altered, Cut, put, insert_answer, raise_answer, mark_answer, cut_answer}
use Rattle.tables.specs.Calls.{Upon, Step, Reached, start, next, Strict}
use Rattle.tables.proofs.Order.{falls_with, falls_at_stamp}
use Rattle.tables.proofs.Cuts.{cut_keeps_falling}
use Rattle.tables.proofs.Lengths.{put_here, put_other}

-- a change of one cell's list, if that list falls
one_cell : {t u : Table} {c : ℕ} {vs : List Version} → Only t u c vs → falls vs ≡ true → Strict t → Strict u
one_cell {t} {u} {c} {vs} only h strict q =
    ap (λ (f : ℕ → List Version). falls (f q)) only.versions ∙
    ⊎_elim
    (λ (e : q ≡ c). subst⁻¹ (λ (k : ℕ). falls (put t.versions c vs k) ≡ true) e (ap falls (put_here t.versions c vs) ∙ h))
    (λ ne. ap falls (put_other t.versions c vs q ne) ∙ strict q)
    (cases_eq q c)

-- by the way in which a call came out
upon : {P Q R : Type 0} (o : Outcome ℕ) → ((a : ℕ) → o ≡ accepted a → P → R) → (Q → R) → Upon o P Q → R
upon (accepted a) yes' no' h = yes' a refl h
upon (refused n d) yes' no' h = no' h

-- an accepted insert names a stamp that is not there
insert_new : (t : Table) (c s a : ℕ) → insert_answer t c s ≡ accepted a → holds s (t.versions c) ≡ false
insert_new t c s a e = grind (arith, nat_tests)

clear_strict : (t u : Table) → Cleared t u → Strict u
clear_strict t u h c = ap (λ (f : ℕ → List Version). falls (f c)) h.versions ∙ grind (arith, nat_tests)

same_strict : (t u : Table) → u ≡ t → Strict t → Strict u
same_strict t u e h = subst⁻¹ Strict e h

pub step_strict : (t u : Table) (call : TableCall) → Step t call u → Strict t → Strict u
step_strict t u Clear h strict = clear_strict t u h
step_strict t u Cells h strict = same_strict t u h strict
step_strict t u (FreePlaces c) h strict = same_strict t u h strict
step_strict t u (Length c) h strict = same_strict t u h strict
step_strict t u (VersionAt c i) h strict = same_strict t u h strict
step_strict t u (Insert c s x) h strict =
    upon (insert_answer t c s)
    (λ a e (done : Inserted t u c s x). one_cell done.only (falls_with (new_version s x) (t.versions c) (insert_new t c s a e) (strict c)) strict)
    (λ (e : u ≡ t). same_strict t u e strict) h
step_strict t u (Raise c s r) h strict =
    upon (raise_answer t c s)
    (λ a e (done : Altered t u c s (raised r)). one_cell done.only (falls_at_stamp s (raised r) (λ v. refl) (t.versions c) (strict c)) strict)
    (λ (e : u ≡ t). same_strict t u e strict) h
step_strict t u (Mark c s k) h strict =
    upon (mark_answer t c s)
    (λ a e (done : Altered t u c s (marked k)). one_cell done.only (falls_at_stamp s (marked k) (λ v. refl) (t.versions c) (strict c)) strict)
    (λ (e : u ≡ t). same_strict t u e strict) h
step_strict t u (CutAt c s) h strict =
    upon (cut_answer t c s)
    (λ a e (done : Cut t u c s). one_cell done.only (cut_keeps_falling s (t.versions c) (strict c)) strict)
    (λ (e : u ≡ t). same_strict t u e strict) h

same_cells : (t u : Table) → u ≡ t → u.cells ≡ t.cells
same_cells t u e = rw e refl

-- no call changes the number of cells
pub step_cells : (t u : Table) (call : TableCall) → Step t call u → u.cells ≡ t.cells
step_cells t u Clear h = h.cells
step_cells t u Cells h = same_cells t u h
step_cells t u (FreePlaces c) h = same_cells t u h
step_cells t u (Length c) h = same_cells t u h
step_cells t u (VersionAt c i) h = same_cells t u h
step_cells t u (Insert c s x) h = upon (insert_answer t c s) (λ a e (done : Inserted t u c s x). done.only.cells) (same_cells t u) h
step_cells t u (Raise c s r) h = upon (raise_answer t c s) (λ a e (done : Altered t u c s (raised r)). done.only.cells) (same_cells t u) h
step_cells t u (Mark c s k) h = upon (mark_answer t c s) (λ a e (done : Altered t u c s (marked k)). done.only.cells) (same_cells t u) h
step_cells t u (CutAt c s) h = upon (cut_answer t c s) (λ a e (done : Cut t u c s). done.only.cells) (same_cells t u) h

-- the promise
pub reached_strict : {t : Table} → Reached t → Strict t
reached_strict (start {t} {u} h) = clear_strict t u h
reached_strict (next {t} {u} call r h) = step_strict t u call h (reached_strict r)
