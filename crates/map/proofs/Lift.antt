-- A call that changed one worker in its place is the rules' call on the whole map.
use Rattle.std.proofs.Common.{◌≡◌, ℕ, ◌<◌, List, [], ◌∷◌, length, get_or, set, sym, refl, ap, ◌∙◌, subst, lt-ltb}
use Rattle.words.specs.Outcome.{Outcome, accepted, refused}
use Rattle.tables.specs.Table.{Table}
use Rattle.tables.specs.declared.call.TableCall.{TableCall}
use Rattle.tables.proofs.Reaches.{step_cells}
use Rattle.rules.specs.declared.call.Call.{Call}
use Rattle.rules.specs.Model.{Worker, Model}
use Rattle.rules.specs.Rules.{Done, outcome}
use Rattle.rules.specs.Turns.{Came, Lists, in_place, in_both, at_worker, at_both, turn_outcome}
use Rattle.rules.specs.Beneath.{Steps, StepsUpon, beneath, Beneath}
use Rattle.rules.proofs.Refusals.{refused_unchanged}
use Rattle.rules.proofs.Same.{same_outcome}
use Rattle.law.specs.History.{Event}
use Rattle.law.specs.Run.{Run, more}
use Rattle.map.specs.declared.crew.Crew.{Crew}
use Rattle.map.specs.Plate.{seated, plate}
use Rattle.map.specs.Performed.{Performed}
use Rattle.map.proofs.Places.{seated_at, seated_set}

-- a table's steps keep its number of cells
steps_cells : (calls : List TableCall) (t u : Table) → Steps t calls u → u.cells ≡ t.cells
steps_cells [] t u e = ap (λ (z : Table). z.cells) e
steps_cells (call ∷ calls) t u (s, step, rest) = steps_cells calls s u rest ∙ step_cells t s call step

pub upon_cells : (t u : Table) (answer : Outcome ℕ) (calls : List TableCall) → StepsUpon t answer calls u → u.cells ≡ t.cells
upon_cells t u (accepted n) calls h = steps_cells calls t u h
upon_cells t u (refused n d) calls h = ap (λ (z : Table). z.cells) h

pub none_beneath : (t : Table) (answer : Outcome ℕ) → StepsUpon t answer [] t
none_beneath t (accepted n) = refl
none_beneath t (refused n d) = refl

-- the answer and the steps are all that is to be shown
pub performed : (t u : Table) (i j : Crew) (call : Call) (answer : Outcome ℕ) → (answer, plate u j) ≡ turn_outcome t.free (plate t i) call → Beneath t (plate t i) call answer u → Performed t i call answer u j
performed t u i j call answer turn beneath =
    let after : (answer, plate u j) ≡ outcome t.free (plate t i) call = turn ∙ same_outcome t.free (plate t i) call in
    record {
      after = after;
      beneath = beneath;
      unchanged = λ n d e. (
        ap (λ (z : Done). z.1) after ∙ refused_unchanged t.free (plate t i) call n d (ap (λ (z : Done). z.0) (sym after) ∙ e),
        subst (λ (o : Outcome ℕ). Beneath t (plate t i) call o u) e beneath,
      );
    }

abbrev pub over : Table → List Worker → ℕ → ℕ → Model
over t xs n m = record { workers = n; worker = seated xs; cells = t.cells; lists = t.versions; commits = m }

module _ (t u : Table) (xs : List Worker) (n m w : ℕ) (x y : Worker) (within : w < n) (places : w < length xs) (is : x ≡ get_or xs w x) (a : Outcome ℕ) where
  pub here : seated xs w ≡ x
  here = seated_at xs w x places ∙ sym is

  pub lifted : (f : Worker → Came Worker) → (a, y) ≡ f x → (a, over t (set xs w y) n m) ≡ at_worker (over t xs n m) w f
  lifted f h =
      (λ i. (a, record { workers = n; worker = seated_set xs w y places i; cells = t.cells; lists = t.versions; commits = m })) ∙
      ap (in_place (over t xs n m) w) (h ∙ ap f (sym here)) ∙ sym (rw (lt-ltb w n within))

  pub lifted_both : (f : Worker → Came (Worker × Lists)) → u.cells ≡ t.cells → (a, (y, u.versions)) ≡ f x → (a, over u (set xs w y) n m) ≡ at_both (over t xs n m) w f
  lifted_both f same h =
      (λ i. (a, record { workers = n; worker = seated_set xs w y places i; cells = same i; lists = u.versions; commits = m })) ∙
      ap (in_both (over t xs n m) w) (h ∙ ap f (sym here)) ∙ sym (rw (lt-ltb w n within))

-- a run and one call more
pub one_more_event : (workers cells : ℕ) (es : List Event) (t u : Table) (i j : Crew) (call : Call) (answer : Outcome ℕ) → Run workers cells es t (plate t i) → Performed t i call answer u j → Run workers cells (record { call = call; answer = answer } ∷ es) u (plate u j)
one_more_event workers cells es t u i j call answer run did = more call answer run (sym did.after) did.beneath
