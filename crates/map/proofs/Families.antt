-- The calls of each family, from one worker to the map.
use Rattle.std.proofs.Common.{◌≡◌, ℕ, ◌<◌, List, [], length, get_or, set, Ok, Err, vec_items, Result, sym, refl, ap, ◌∙◌, subst, lt-ltb, MatchResult}
use Rattle.words.specs.Outcome.{Outcome, accepted, refused, refuse, told}
use Rattle.words.specs.declared.refusal.Refusal.{Refusal}
use Rattle.words.specs.declared.version.Version.{Version}
use Rattle.tables.specs.Table.{Table, Cut, cut_answer}
use Rattle.tables.specs.Calls.{Upon}
use Rattle.rules.specs.declared.call.Call.TheVariants.{Read, Write, Commit, Abort, Show, Collect}
use Rattle.rules.specs.Model.{Worker, with_commits}
use Rattle.rules.specs.Search.{newest, newest_below, search}
use Rattle.rules.specs.Stamps.{keep_line}
use Rattle.rules.specs.Rules.{with_a_worker, with_a_cell}
use Rattle.rules.specs.Turns.{Came, Lists, at_worker, at_both, tick_by, begin_by, pulse_by, write_by, install_by, stamp_by, check_by, read_by, commit_by, abort_by, counting, one_more, in_place}
use Rattle.rules.specs.Beneath.{Steps, StepsUpon, step_calls, commit_calls, abort_calls, cut_at}
use Rattle.workers.specs.declared.clock.Tick.{Tick}
use Rattle.workers.specs.declared.clock.Tick.TheVariants.{Begin as Begins, Pulse as Pulses}
use Rattle.workers.specs.declared.steps.Step.{Step}
use Rattle.workers.specs.declared.steps.Step.TheVariants.{Install as Installs, Stamp as Stamps, Check as Checks}
use Rattle.workers.specs.Shape.{stage_after, step_by, calls_for}
use Rattle.map.specs.declared.crew.Crew.{Crew}
use Rattle.map.specs.Plate.{seated, plate}
use Rattle.map.specs.Performed.{Performed, tick_call, step_call}
use Rattle.map.proofs.Lift.{over, here, lifted, lifted_both, performed, none_beneath, upon_cells}

-- the worker w of the map i was x and is y
module _ (t u : Table) (i : Crew) (w : ℕ) (x y : Worker) (within : w < i.count) (places : w < length (vec_items i.workers)) (is : x ≡ get_or (vec_items i.workers) w x) (a : Outcome ℕ)
    (j : Crew) (changed : (v : Table) → plate v j ≡ over v (set (vec_items i.workers) w y) i.count i.commits) where
  abbrev xs : List Worker
  xs = vec_items i.workers

  -- a call of the worker alone
  alone : (f : Worker → Came Worker) → (a, y) ≡ f x → (a, plate t j) ≡ at_worker (plate t i) w f
  alone f h = ap (λ m. (a, m)) (changed t) ∙ lifted t u xs i.count i.commits w x y within places is a f h

  pub tick_performed : (call : Tick) (units : ℕ) → (a, y) ≡ tick_by (stage_after call) w units x → Performed t i (tick_call call w units) a t j
  tick_performed Begins units h = performed t t i j _ a (alone (begin_by w units) h) (none_beneath t a)
  tick_performed Pulses units h = performed t t i j _ a (alone (pulse_by w units) h) (none_beneath t a)

  both : (f : Worker → Came (Worker × Lists)) → u.cells ≡ t.cells → (a, (y, u.versions)) ≡ f x → (a, plate u j) ≡ at_both (plate t i) w f
  both f same h = ap (λ m. (a, m)) (changed u) ∙ lifted_both t u xs i.count i.commits w x y within places is a f same h

  seated_here : seated xs w ≡ x
  seated_here = here t u xs i.count i.commits w x y within places is a

  unmoved : (answer : Outcome ℕ) → StepsUpon t answer [] u → u ≡ t
  unmoved (accepted n) h = h
  unmoved (refused n d) h = h

  pub step_performed : (call : Step) → (a, (y, u.versions)) ≡ step_by call t w x → StepsUpon t a (calls_for call w x) u → Performed t i (step_call call w) a u j
  step_performed Installs h steps = performed t u i j _ a (both (install_by t w) (upon_cells t u a (step_calls w x) steps) h) (subst (λ z. StepsUpon t a (step_calls w z) u) (sym seated_here) steps)
  step_performed Stamps h steps = performed t u i j _ a (both (stamp_by t w) (upon_cells t u a (step_calls w x) steps) h) (subst (λ z. StepsUpon t a (step_calls w z) u) (sym seated_here) steps)
  step_performed Checks h steps = subst (λ v. Performed t i (step_call Checks w) a v j) (sym (unmoved a steps))
      (performed t t i j _ a (alone (check_by t w) (ap (λ (z : Came (Worker × Lists)). (z.0, z.1.0)) h)) (none_beneath t a))

  -- of a cell that is there
  module _ (c : ℕ) (there : c < t.cells) where
    at_cell : (f : Worker → Came Worker) → at_worker (plate t i) w f ≡ with_a_worker (plate t i) w (with_a_cell (plate t i) c (in_place (plate t i) w (f (seated xs w))))
    at_cell f = sym (rw (lt-ltb c t.cells there))

    pub write_performed : (value : ℕ) → (a, y) ≡ write_by c value x → Performed t i (Write w c value) a t j
    write_performed value h = performed t t i j _ a (alone (write_by c value) h ∙ at_cell (write_by c value)) (none_beneath t a)

    pub read_performed : (a, y) ≡ read_by t w c x → Performed t i (Read w c) a t j
    read_performed h = performed t t i j _ a (alone (read_by t w c) h ∙ at_cell (read_by t w c)) (none_beneath t a)

  pub abort_performed : (a, (y, u.versions)) ≡ abort_by t w x → StepsUpon t a (abort_calls w x) u → Performed t i (Abort w) a u j
  abort_performed h steps = performed t u i j _ a (both (abort_by t w) (upon_cells t u a (abort_calls w x) steps) h) (subst (λ z. StepsUpon t a (abort_calls w z) u) (sym seated_here) steps)

  -- commit, and one more commit counted where it is accepted
  pub commit_counted : (n : ℕ) → a ≡ accepted n → (a, (y, u.versions)) ≡ commit_by t w x → StepsUpon t a (commit_calls w x) u
      → (k : Crew) → plate u k ≡ with_commits (plate u j) (one_more i.commits) → (j.commits ≡ i.commits) → Performed t i (Commit w) a u k
  commit_counted n ok h steps k more same = performed t u i k _ a
      (ap (λ m. (a, m)) more ∙ ap (λ c. (a, with_commits (plate u j) (one_more c))) (sym same) ∙ subst (λ o. (o, with_commits (plate u j) (one_more j.commits)) ≡ counting (o, plate u j)) (sym ok) refl ∙
      ap counting (both (commit_by t w) (upon_cells t u a (commit_calls w x) steps) h)) (subst (λ z. StepsUpon t a (commit_calls w z) u) (sym seated_here) steps)

-- collect, by what its search found
pub collect_found : (t u : Table) (i : Crew) (c line : ℕ) (v : Version) (r : Result ℕ Refusal) → line ≡ keep_line (plate t i) → accepted v ≡ search (newest_below line) t c → told r ≡ cut_answer t c v.write
    → MatchResult r (λ _. Cut t u c v.write) (λ _. u ≡ t) → Performed t i (Collect c) (told r) u i
collect_found t u i c line v r e found answer after = by r answer after
  where
    seen : search (newest_below (keep_line (plate t i))) t c ≡ accepted v
    seen = ap (λ l. search (newest_below l) t c) (sym e) ∙ sym found

    by : (r : Result ℕ Refusal) → told r ≡ cut_answer t c v.write → MatchResult r (λ _. Cut t u c v.write) (λ _. u ≡ t) → Performed t i (Collect c) (told r) u i
    by (Ok n) ok cut = performed t u i i _ (accepted n)
        ((λ k. (accepted n, record { workers = i.count; worker = seated (vec_items i.workers); cells = cut.only.cells k; lists = cut.only.versions k; commits = i.commits })) ∙ sym (rw (seen, ← ok)))
        (subst (λ o. Steps t (cut_at c o) u) (sym seen) (u, subst (λ o. Upon o (Cut t u c v.write) (u ≡ t)) ok cut, refl))
    by (Err x) no' same = performed t u i i _ (refuse x) ((λ k. (refuse x, plate (same k) i)) ∙ sym (rw (seen, ← no'))) same

pub collect_none : (t : Table) (i : Crew) (c line : ℕ) (x : Refusal) → line ≡ keep_line (plate t i) → refuse x ≡ search (newest_below line) t c → Performed t i (Collect c) (refuse x) t i
collect_none t i c line x e found =
    let seen : search (newest_below (keep_line (plate t i))) t c ≡ refuse x = ap (λ l. search (newest_below l) t c) (sym e) ∙ sym found in
    performed t t i i _ (refuse x) (sym (rw seen)) refl

-- show, where its search found none
pub show_none : (t : Table) (i : Crew) (c : ℕ) (x : Refusal) → refuse x ≡ search newest t c → Performed t i (Show c) (refuse x) t i
show_none t i c x found = performed t t i i _ (refuse x) (sym (rw (← found))) refl
