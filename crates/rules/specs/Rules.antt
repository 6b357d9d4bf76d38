-- The rules of the map, call by call. Each rule is a list of tests in their order; the first that
-- fits is the refusal.
use Rattle.std.specs.Prelude.{ℕ, ◌+◌, ◌-◌, ◌*◌, min, max, cond, List, [], ◌∷◌, ◌++◌, length, take, Some, None, Option, ◌==◌, nat_lt}
use Rattle.words.specs.Outcome.{Outcome, accepted, refused, refuse}
use Rattle.words.specs.declared.refusal.Refusal.{Refusal}
use Rattle.words.specs.declared.refusal.Refusal.TheVariants.{NoWorker, NoCell, OutOfTurn, SetFull, ClockSpent, Changed, ReadLater}
use Rattle.words.specs.declared.status.Ending.{Ending}
use Rattle.words.specs.declared.status.Ending.TheVariants.{Commit as Commits', Abort as Aborts'}
use Rattle.words.specs.declared.version.Version.{Version}
use Rattle.words.specs.Version.{new_version}
use Rattle.tables.specs.Versions.{with_version, at_stamp, raised, marked, kept}
use Rattle.tables.specs.Table.{Table, put, insert_answer, raise_answer, mark_answer, cut_answer}
use Rattle.rules.specs.declared.entry.ReadEntry.{ReadEntry}
use Rattle.rules.specs.declared.entry.WriteEntry.{WriteEntry}
use Rattle.rules.specs.declared.call.Call.{Call}
use Rattle.rules.specs.declared.call.Call.TheVariants.{Begin, Pulse, Sync, Read, Write, Seal, Install, Stamp, Check, Commit, Abort, Look, Close, Show, Commits, Collect}
use Rattle.rules.specs.Model.{Stage, idle, open', sealed, looking, Model, table_of, with_worker, with_list, with_lists, with_commits, at_stage}
use Rattle.rules.specs.Stamps.{last_clock, adjusted, ticked, timestamp, last_stamp, floor, keep_line}
use Rattle.rules.specs.Sets.{find_read, find_write, full, replaced, nth}
use Rattle.rules.specs.Search.{visible, newest, newest_below, search}

-- the answer to a call, and what it is about afterwards: the model, or what a worker's call can change
abbrev pub Came : Type 0 → Type 0
Came A = Outcome ℕ × A

-- what a call of a map comes to
abbrev pub Done : Type 0
Done = Came Model

abbrev pub accept : {A : Type 0} → ℕ → A → Came A
accept n a = (accepted n, a)

-- a refused call leaves all as it is
abbrev pub deny : {A : Type 0} → Refusal → A → Came A
deny e a = (refuse e, a)

-- what another rule answered, passed on: k where it accepted
abbrev pub upon : {A B : Type 0} → Outcome B → A → (B → Came A) → Came A
upon (accepted b) a k = k b
upon (refused n d) a k = (refused n d, a)

-- x where a rule accepts, else y
abbrev pub if_accepted : {A B : Type 0} → Outcome A → B → B → B
if_accepted (accepted a) x y = x
if_accepted (refused n d) x y = y

-- the first tests
abbrev pub with_a_worker : Model → ℕ → Done → Done
with_a_worker m w d = cond (nat_lt w m.workers) d (deny NoWorker m)

abbrev pub with_a_cell : Model → ℕ → Done → Done
with_a_cell m c d = cond (nat_lt c m.cells) d (deny NoCell m)

-- d for an idle worker
abbrev pub if_idle : {A : Type 0} → Stage → A → Came A → Came A
if_idle idle a d = d
if_idle (open' rs ws) a d = deny OutOfTurn a
if_idle (sealed rs ws k) a d = deny OutOfTurn a
if_idle (looking f) a d = deny OutOfTurn a

-- d of the sets of an open pass
abbrev pub if_open : {A : Type 0} → Stage → A → (List ReadEntry → List WriteEntry → Came A) → Came A
if_open idle a d = deny OutOfTurn a
if_open (open' rs ws) a d = d rs ws
if_open (sealed rs ws k) a d = deny OutOfTurn a
if_open (looking f) a d = deny OutOfTurn a

-- d of the sets of a sealed pass and of its steps done
abbrev pub if_sealed : {A : Type 0} → Stage → A → (List ReadEntry → List WriteEntry → ℕ → Came A) → Came A
if_sealed idle a d = deny OutOfTurn a
if_sealed (open' rs ws) a d = deny OutOfTurn a
if_sealed (sealed rs ws k) a d = d rs ws k
if_sealed (looking f) a d = deny OutOfTurn a

-- begin and pulse: the clock goes on, and the stage becomes g
abbrev pub tick : Model → ℕ → ℕ → Stage → Done
tick m w units g =
    with_a_worker m w
    (if_idle (m.worker w).stage m
    (cond (nat_lt last_clock (adjusted (m.worker w) units)) (deny ClockSpent m)
    (accept (timestamp (adjusted (m.worker w) units) w) (with_worker m w (ticked (m.worker w) units g)))))

-- sync
abbrev pub synced : Model → ℕ → ℕ → Done
synced m w o =
    with_a_worker m w
    (with_a_worker m o
    (accept (max (m.worker w).clock (m.worker o).clock)
    (with_worker m w (record { clock = max (m.worker w).clock (m.worker o).clock; boost = (m.worker w).boost; last = (m.worker w).last; stage = (m.worker w).stage }))))

-- read of a cell that is in neither set: the order of its refusals
abbrev pub read_new : Model → ℕ → ℕ → List ReadEntry → List WriteEntry → Outcome Version → Done
read_new m w c rs ws seen =
    cond (full rs) (deny SetFull m)
    (upon seen m (λ v. accept v.value (with_worker m w (at_stage (m.worker w) (open' (rs ++ (record { cell = c; stamp = v.write; value = v.value } ∷ [])) ws)))))

-- the value in the read set, else a new read
abbrev pub read_known : {A : Type 0} → Option ReadEntry → A → Came A → Came A
read_known None a new = new
read_known (Some e) a new = accept e.value a

-- the value in the write set, else another read
abbrev pub read_written : {A : Type 0} → Option WriteEntry → A → Came A → Came A
read_written None a new = new
read_written (Some e) a new = accept e.value a

abbrev pub read_in : Table → Model → ℕ → ℕ → Stage → Done
read_in t m w c idle = deny OutOfTurn m
read_in t m w c (open' rs ws) =
    read_written (find_write c ws) m
    (read_known (find_read c rs) m (read_new m w c rs ws (search (visible (last_stamp m w)) t c)))
read_in t m w c (sealed rs ws k) = deny OutOfTurn m
read_in t m w c (looking f) = upon (search (visible f) t c) m (λ v. accept v.value m)

-- write
abbrev pub written : Option WriteEntry → Model → ℕ → WriteEntry → List ReadEntry → List WriteEntry → Done
written None m w e rs ws =
    cond (full ws) (deny SetFull m)
    (accept (length ws + 1) (with_worker m w (at_stage (m.worker w) (open' rs (ws ++ (e ∷ []))))))
written (Some old) m w e rs ws =
    accept (length ws) (with_worker m w (at_stage (m.worker w) (open' rs (replaced e ws))))

-- the steps of a pass with W writes and R reads
abbrev pub steps : List ReadEntry → List WriteEntry → ℕ
steps rs ws = 2 * (length ws + length rs)

-- which step is next after k
pub data Step : Type 0 where
  to_install : WriteEntry → Step
  to_stamp : ReadEntry → Step
  to_check_read : ReadEntry → Step
  to_check_write : WriteEntry → Step
  finished : Step

abbrev pub step_write : (WriteEntry → Step) → Option WriteEntry → Step
step_write f None = finished
step_write f (Some e) = f e

abbrev pub step_read : (ReadEntry → Step) → Option ReadEntry → Step
step_read f None = finished
step_read f (Some e) = f e

-- installs, then stamps, then checks of the reads, then checks of the writes
abbrev pub next_step : List ReadEntry → List WriteEntry → ℕ → Step
next_step rs ws k =
    cond (nat_lt k (length ws)) (step_write to_install (nth ws k))
    (cond (nat_lt k (length ws + length rs)) (step_read to_stamp (nth rs (k - length ws)))
    (cond (nat_lt k (length ws + 2 * length rs)) (step_read to_check_read (nth rs (k - (length ws + length rs))))
    (cond (nat_lt k (steps rs ws)) (step_write to_check_write (nth ws (k - (length ws + 2 * length rs)))) finished)))

-- how many steps are left once k and one more are done
abbrev pub steps_left : List ReadEntry → List WriteEntry → ℕ → ℕ
steps_left rs ws k = steps rs ws - (k + 1)

-- an accepted step: k goes on by 1
abbrev pub stepped : Model → ℕ → List ReadEntry → List WriteEntry → ℕ → Done
stepped m w rs ws k = accept (steps_left rs ws k) (with_worker m w (at_stage (m.worker w) (sealed rs ws (k + 1))))

abbrev pub install_step : Step → Table → Model → ℕ → List ReadEntry → List WriteEntry → ℕ → Done
install_step (to_install e) t m w rs ws k =
    upon (insert_answer t e.cell (last_stamp m w)) m
    (λ _. stepped (with_list m e.cell (with_version (new_version (last_stamp m w) e.value) (m.lists e.cell))) w rs ws k)
install_step (to_stamp e) t m w rs ws k = deny OutOfTurn m
install_step (to_check_read e) t m w rs ws k = deny OutOfTurn m
install_step (to_check_write e) t m w rs ws k = deny OutOfTurn m
install_step finished t m w rs ws k = deny OutOfTurn m

-- a version that is gone is CHANGED
abbrev pub gone : Outcome ℕ → Outcome ℕ
gone (accepted n) = accepted n
gone (refused n d) = cond (n == 9) (refuse Changed) (refused n d)

abbrev pub stamp_step : Step → Table → Model → ℕ → List ReadEntry → List WriteEntry → ℕ → Done
stamp_step (to_install e) t m w rs ws k = deny OutOfTurn m
stamp_step (to_stamp e) t m w rs ws k =
    upon (gone (raise_answer t e.cell e.stamp)) m
    (λ _. stepped (with_list m e.cell (at_stamp e.stamp (raised (last_stamp m w)) (m.lists e.cell))) w rs ws k)
stamp_step (to_check_read e) t m w rs ws k = deny OutOfTurn m
stamp_step (to_check_write e) t m w rs ws k = deny OutOfTurn m
stamp_step finished t m w rs ws k = deny OutOfTurn m

abbrev pub check_step : Step → Table → Model → ℕ → List ReadEntry → List WriteEntry → ℕ → Done
check_step (to_install e) t m w rs ws k = deny OutOfTurn m
check_step (to_stamp e) t m w rs ws k = deny OutOfTurn m
check_step (to_check_read e) t m w rs ws k =
    upon (search (visible (last_stamp m w)) t e.cell) m
    (λ v. cond (v.write == e.stamp) (stepped m w rs ws k) (deny Changed m))
check_step (to_check_write e) t m w rs ws k =
    upon (search (visible (last_stamp m w)) t e.cell) m
    (λ v. cond (nat_lt (last_stamp m w) v.read) (deny ReadLater m) (stepped m w rs ws k))
check_step finished t m w rs ws k = deny OutOfTurn m

-- the pass's version of one write ended; a version that is not there, or not pending, stays
abbrev pub ended_one : Ending → ℕ → ℕ → (ℕ → List Version) → WriteEntry → ℕ → List Version
ended_one how cells s ls e =
    if_accepted (mark_answer (record { cells = cells; versions = ls; free = λ c. 0 }) e.cell s)
    (put ls e.cell (at_stamp s (marked how) (ls e.cell))) ls

abbrev pub ended_all : Ending → ℕ → ℕ → (ℕ → List Version) → List WriteEntry → ℕ → List Version
ended_all how cells s ls [] = ls
ended_all how cells s ls (e ∷ es) = ended_all how cells s (ended_one how cells s ls e) es

-- the counter of commits, held at 4,294,967,295
abbrev pub counted : Model → ℕ
counted m = m.commits

-- it goes on by one, and no further than that
abbrev pub one_more : ℕ → ℕ
one_more n = min (n + 1) 4294967295

abbrev pub count_one : Model → Model
count_one m = with_commits m (one_more m.commits)

-- what commit does to the model
abbrev pub committed : Model → ℕ → List WriteEntry → Model
committed m w ws =
    count_one (with_worker (with_lists m (ended_all Commits' m.cells (last_stamp m w) m.lists ws)) w
    (record { clock = (m.worker w).clock; boost = 0; last = (m.worker w).last; stage = idle }))

abbrev pub aborted : Model → ℕ → List WriteEntry → Model
aborted m w ws =
    with_worker (with_lists m (ended_all Aborts' m.cells (last_stamp m w) m.lists ws)) w
    (record { clock = (m.worker w).clock; boost = 10; last = (m.worker w).last; stage = idle })

abbrev pub abort_in : Model → ℕ → Stage → Done
abort_in m w idle = deny OutOfTurn m
abort_in m w (open' rs ws) = accept 0 (aborted m w [])
abort_in m w (sealed rs ws k) = accept (min k (length ws)) (aborted m w (take (min k (length ws)) ws))
abort_in m w (looking f) = deny OutOfTurn m

abbrev pub close_in : Model → ℕ → Stage → Done
close_in m w idle = deny OutOfTurn m
close_in m w (open' rs ws) = deny OutOfTurn m
close_in m w (sealed rs ws k) = deny OutOfTurn m
close_in m w (looking f) = accept 0 (with_worker m w (at_stage (m.worker w) idle))

-- the rules' function: the table's free places, a model and a call give the answer and the next model
abbrev pub outcome : (ℕ → ℕ) → Model → Call → Done
outcome free m (Begin w units) = tick m w units (open' [] [])
outcome free m (Pulse w units) = tick m w units idle
outcome free m (Sync w o) = synced m w o
outcome free m (Read w c) = with_a_worker m w (with_a_cell m c (read_in (table_of free m) m w c (m.worker w).stage))
outcome free m (Write w c x) =
    with_a_worker m w
    (with_a_cell m c (if_open (m.worker w).stage m (λ rs ws. written (find_write c ws) m w (record { cell = c; value = x }) rs ws)))
outcome free m (Seal w) =
    with_a_worker m w
    (if_open (m.worker w).stage m (λ rs ws. accept (steps rs ws) (with_worker m w (at_stage (m.worker w) (sealed rs ws 0)))))
outcome free m (Install w) =
    with_a_worker m w (if_sealed (m.worker w).stage m (λ rs ws k. install_step (next_step rs ws k) (table_of free m) m w rs ws k))
outcome free m (Stamp w) =
    with_a_worker m w (if_sealed (m.worker w).stage m (λ rs ws k. stamp_step (next_step rs ws k) (table_of free m) m w rs ws k))
outcome free m (Check w) =
    with_a_worker m w (if_sealed (m.worker w).stage m (λ rs ws k. check_step (next_step rs ws k) (table_of free m) m w rs ws k))
outcome free m (Commit w) =
    with_a_worker m w
    (if_sealed (m.worker w).stage m (λ rs ws k. cond (k == steps rs ws) (accept (last_stamp m w) (committed m w ws)) (deny OutOfTurn m)))
outcome free m (Abort w) = with_a_worker m w (abort_in m w (m.worker w).stage)
outcome free m (Look w) =
    with_a_worker m w
    (if_idle (m.worker w).stage m (accept (floor m) (with_worker m w (at_stage (m.worker w) (looking (floor m))))))
outcome free m (Close w) = with_a_worker m w (close_in m w (m.worker w).stage)
outcome free m (Show c) = upon (search newest (table_of free m) c) m (λ v. accept v.value m)
outcome free m Commits = accept (counted m) m
outcome free m (Collect c) =
    upon (search (newest_below (keep_line m)) (table_of free m) c) m
    (λ v. upon (cut_answer (table_of free m) c v.write) m (λ n. accept n (with_list m c (kept v.write (m.lists c)))))
