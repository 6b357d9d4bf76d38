-- The rules of the map once more, cut by worker: a worker's call is a rule over that worker (`begin_by`
-- and so on), and `turn_outcome` puts what it comes to back into the model. It is the rules' function. Both
-- stand: by the rules a refused call leaves m itself, here a model that is only proved equal to it.
use Rattle.std.specs.Prelude.{ℕ, ◌+◌, min, max, cond, List, [], ◌∷◌, ◌++◌, length, take, Some, None, Option, ◌==◌, nat_lt}
use Rattle.words.specs.Outcome.{Outcome, accepted, refused}
use Rattle.words.specs.declared.refusal.Refusal.TheVariants.{OutOfTurn, SetFull, ClockSpent, Changed, ReadLater}
use Rattle.words.specs.declared.status.Ending.{Ending}
use Rattle.words.specs.declared.status.Ending.TheVariants.{Commit as Commits', Abort as Aborts'}
use Rattle.words.specs.declared.version.Version.{Version}
use Rattle.words.specs.Version.{new_version}
use Rattle.tables.specs.Versions.{with_version, at_stamp, raised, kept}
use Rattle.tables.specs.Table.{Table, put, insert_answer, raise_answer, cut_answer}
use Rattle.rules.specs.declared.entry.ReadEntry.{ReadEntry}
use Rattle.rules.specs.declared.entry.WriteEntry.{WriteEntry}
use Rattle.rules.specs.declared.call.Call.{Call}
use Rattle.rules.specs.declared.call.Call.TheVariants.{Begin, Pulse, Sync, Read, Write, Seal, Install, Stamp, Check, Commit, Abort, Look, Close, Show, Commits, Collect}
use Rattle.rules.specs.Model.{Stage, idle, open', sealed, looking, Worker, Model, table_of, with_worker, with_list, with_lists, at_stage}
use Rattle.rules.specs.Stamps.{last_clock, adjusted, ticked, timestamp, floor, keep_line}
use Rattle.rules.specs.Sets.{find_read, find_write, full, replaced}
use Rattle.rules.specs.Search.{visible, newest, newest_below, search}
use Rattle.rules.specs.Rules.{Done, accept, deny, upon, if_idle, if_open, if_sealed, with_a_worker, with_a_cell, read_known, read_written, Step, to_install, to_stamp, to_check_read, to_check_write, finished, next_step, steps, gone, ended_all, count_one}
pub use Rattle.rules.specs.Rules.{Came, steps_left, one_more}

-- the timestamp of the pass that the worker x, numbered w, runs
abbrev pub pass_stamp : Worker → ℕ → ℕ
pass_stamp x w = timestamp x.last w

-- begin and pulse: the clock goes on, and the stage becomes g
abbrev pub tick_by : Stage → ℕ → ℕ → Worker → Came Worker
tick_by g w units x =
    if_idle x.stage x
    (cond (nat_lt last_clock (adjusted x units)) (deny ClockSpent x) (accept (timestamp (adjusted x units) w) (ticked x units g)))

abbrev pub begin_by : ℕ → ℕ → Worker → Came Worker
begin_by w units x = tick_by (open' [] []) w units x

abbrev pub pulse_by : ℕ → ℕ → Worker → Came Worker
pulse_by w units x = tick_by idle w units x

-- sync with another's clock
abbrev pub sync_by : ℕ → Worker → Came Worker
sync_by other x =
    accept (max x.clock other) (record { clock = max x.clock other; boost = x.boost; last = x.last; stage = x.stage })

-- read of a cell that is in neither set: the order of its refusals
abbrev pub read_new_by : ℕ → List ReadEntry → List WriteEntry → Outcome Version → Worker → Came Worker
read_new_by c rs ws seen x =
    cond (full rs) (deny SetFull x)
    (upon seen x (λ v. accept v.value (at_stage x (open' (rs ++ (record { cell = c; stamp = v.write; value = v.value } ∷ [])) ws))))

abbrev pub read_in_by : Stage → Table → ℕ → ℕ → Worker → Came Worker
read_in_by idle t w c x = deny OutOfTurn x
read_in_by (open' rs ws) t w c x =
    read_written (find_write c ws) x
    (read_known (find_read c rs) x (read_new_by c rs ws (search (visible (pass_stamp x w)) t c) x))
read_in_by (sealed rs ws k) t w c x = deny OutOfTurn x
read_in_by (looking f) t w c x = upon (search (visible f) t c) x (λ v. accept v.value x)

abbrev pub read_by : Table → ℕ → ℕ → Worker → Came Worker
read_by t w c x = read_in_by x.stage t w c x

-- write
abbrev pub written_by : Option WriteEntry → WriteEntry → List ReadEntry → List WriteEntry → Worker → Came Worker
written_by None e rs ws x = cond (full ws) (deny SetFull x) (accept (length ws + 1) (at_stage x (open' rs (ws ++ (e ∷ [])))))
written_by (Some old) e rs ws x = accept (length ws) (at_stage x (open' rs (replaced e ws)))

abbrev pub write_by : ℕ → ℕ → Worker → Came Worker
write_by c value x = if_open x.stage x (λ rs ws. written_by (find_write c ws) (record { cell = c; value = value }) rs ws x)

abbrev pub seal_by : Worker → Came Worker
seal_by x = if_open x.stage x (λ rs ws. accept (steps rs ws) (at_stage x (sealed rs ws 0)))

-- one more step is done
abbrev pub one_on : Worker → List ReadEntry → List WriteEntry → ℕ → Worker
one_on x rs ws k = at_stage x (sealed rs ws (k + 1))

-- a worker, and the lists of the cells
abbrev pub Lists : Type 0
Lists = ℕ → List Version

abbrev pub install_step_by : Step → Table → ℕ → List ReadEntry → List WriteEntry → ℕ → Worker → Came (Worker × Lists)
install_step_by (to_install e) t w rs ws k x =
    upon (insert_answer t e.cell (pass_stamp x w)) (x, t.versions)
    (λ _. accept (steps_left rs ws k) (one_on x rs ws k, put t.versions e.cell (with_version (new_version (pass_stamp x w) e.value) (t.versions e.cell))))
install_step_by (to_stamp e) t w rs ws k x = deny OutOfTurn (x, t.versions)
install_step_by (to_check_read e) t w rs ws k x = deny OutOfTurn (x, t.versions)
install_step_by (to_check_write e) t w rs ws k x = deny OutOfTurn (x, t.versions)
install_step_by finished t w rs ws k x = deny OutOfTurn (x, t.versions)

abbrev pub install_by : Table → ℕ → Worker → Came (Worker × Lists)
install_by t w x = if_sealed x.stage (x, t.versions) (λ rs ws k. install_step_by (next_step rs ws k) t w rs ws k x)

abbrev pub stamp_step_by : Step → Table → ℕ → List ReadEntry → List WriteEntry → ℕ → Worker → Came (Worker × Lists)
stamp_step_by (to_install e) t w rs ws k x = deny OutOfTurn (x, t.versions)
stamp_step_by (to_stamp e) t w rs ws k x =
    upon (gone (raise_answer t e.cell e.stamp)) (x, t.versions)
    (λ _. accept (steps_left rs ws k) (one_on x rs ws k, put t.versions e.cell (at_stamp e.stamp (raised (pass_stamp x w)) (t.versions e.cell))))
stamp_step_by (to_check_read e) t w rs ws k x = deny OutOfTurn (x, t.versions)
stamp_step_by (to_check_write e) t w rs ws k x = deny OutOfTurn (x, t.versions)
stamp_step_by finished t w rs ws k x = deny OutOfTurn (x, t.versions)

abbrev pub stamp_by : Table → ℕ → Worker → Came (Worker × Lists)
stamp_by t w x = if_sealed x.stage (x, t.versions) (λ rs ws k. stamp_step_by (next_step rs ws k) t w rs ws k x)

abbrev pub check_step_by : Step → Table → ℕ → List ReadEntry → List WriteEntry → ℕ → Worker → Came Worker
check_step_by (to_install e) t w rs ws k x = deny OutOfTurn x
check_step_by (to_stamp e) t w rs ws k x = deny OutOfTurn x
check_step_by (to_check_read e) t w rs ws k x =
    upon (search (visible (pass_stamp x w)) t e.cell) x
    (λ v. cond (v.write == e.stamp) (accept (steps_left rs ws k) (one_on x rs ws k)) (deny Changed x))
check_step_by (to_check_write e) t w rs ws k x =
    upon (search (visible (pass_stamp x w)) t e.cell) x
    (λ v. cond (nat_lt (pass_stamp x w) v.read) (deny ReadLater x) (accept (steps_left rs ws k) (one_on x rs ws k)))
check_step_by finished t w rs ws k x = deny OutOfTurn x

abbrev pub check_by : Table → ℕ → Worker → Came Worker
check_by t w x = if_sealed x.stage x (λ rs ws k. check_step_by (next_step rs ws k) t w rs ws k x)

-- a worker whose pass has ended: idle, with its boost for the next
abbrev pub at_rest : ℕ → Worker → Worker
at_rest boost x = record { clock = x.clock; boost = boost; last = x.last; stage = idle }

-- every version of the pass ends
abbrev pub ends : Ending → ℕ → Table → ℕ → List WriteEntry → Worker → Worker × Lists
ends how boost t w ws x = (at_rest boost x, ended_all how t.cells (pass_stamp x w) t.versions ws)

abbrev pub commit_by : Table → ℕ → Worker → Came (Worker × Lists)
commit_by t w x =
    if_sealed x.stage (x, t.versions)
    (λ rs ws k. cond (k == steps rs ws) (accept (pass_stamp x w) (ends Commits' 0 t w ws x)) (deny OutOfTurn (x, t.versions)))

abbrev pub abort_in_by : Stage → Table → ℕ → Worker → Came (Worker × Lists)
abort_in_by idle t w x = deny OutOfTurn (x, t.versions)
abort_in_by (open' rs ws) t w x = accept 0 (ends Aborts' 10 t w [] x)
abort_in_by (sealed rs ws k) t w x = accept (min k (length ws)) (ends Aborts' 10 t w (take (min k (length ws)) ws) x)
abort_in_by (looking f) t w x = deny OutOfTurn (x, t.versions)

abbrev pub abort_by : Table → ℕ → Worker → Came (Worker × Lists)
abort_by t w x = abort_in_by x.stage t w x

-- look from a floor
abbrev pub look_by : ℕ → Worker → Came Worker
look_by f x = if_idle x.stage x (accept f (at_stage x (looking f)))

abbrev pub close_in_by : Stage → Worker → Came Worker
close_in_by idle x = deny OutOfTurn x
close_in_by (open' rs ws) x = deny OutOfTurn x
close_in_by (sealed rs ws k) x = deny OutOfTurn x
close_in_by (looking f) x = accept 0 (at_stage x idle)

abbrev pub close_by : Worker → Came Worker
close_by x = close_in_by x.stage x

-- what a call of the worker w came to, in the model
abbrev pub in_place : Model → ℕ → Came Worker → Done
in_place m w came = (came.0, with_worker m w came.1)

abbrev pub in_both : Model → ℕ → Came (Worker × Lists) → Done
in_both m w came = (came.0, with_worker (with_lists m came.1.1) w came.1.0)

-- a call of the worker w
abbrev pub at_worker : Model → ℕ → (Worker → Came Worker) → Done
at_worker m w f = with_a_worker m w (in_place m w (f (m.worker w)))

abbrev pub at_both : Model → ℕ → (Worker → Came (Worker × Lists)) → Done
at_both m w f = with_a_worker m w (in_both m w (f (m.worker w)))

-- a commit that was accepted is counted
abbrev pub counting : Done → Done
counting (accepted n, m) = accept n (count_one m)
counting (refused n d, m) = (refused n d, m)

-- the rules' function once more, a worker's call as a rule over that worker
abbrev pub turn_outcome : (ℕ → ℕ) → Model → Call → Done
turn_outcome free m (Begin w units) = at_worker m w (begin_by w units)
turn_outcome free m (Pulse w units) = at_worker m w (pulse_by w units)
turn_outcome free m (Sync w o) = with_a_worker m w (with_a_worker m o (in_place m w (sync_by (m.worker o).clock (m.worker w))))
turn_outcome free m (Read w c) = with_a_worker m w (with_a_cell m c (in_place m w (read_by (table_of free m) w c (m.worker w))))
turn_outcome free m (Write w c x) = with_a_worker m w (with_a_cell m c (in_place m w (write_by c x (m.worker w))))
turn_outcome free m (Seal w) = at_worker m w seal_by
turn_outcome free m (Install w) = at_both m w (install_by (table_of free m) w)
turn_outcome free m (Stamp w) = at_both m w (stamp_by (table_of free m) w)
turn_outcome free m (Check w) = at_worker m w (check_by (table_of free m) w)
turn_outcome free m (Commit w) = counting (at_both m w (commit_by (table_of free m) w))
turn_outcome free m (Abort w) = at_both m w (abort_by (table_of free m) w)
turn_outcome free m (Look w) = at_worker m w (look_by (floor m))
turn_outcome free m (Close w) = at_worker m w close_by
turn_outcome free m (Show c) = upon (search newest (table_of free m) c) m (λ v. accept v.value m)
turn_outcome free m Commits = accept m.commits m
turn_outcome free m (Collect c) =
    upon (search (newest_below (keep_line m)) (table_of free m) c) m
    (λ v. upon (cut_answer (table_of free m) c v.write) m (λ n. accept n (with_list m c (kept v.write (m.lists c)))))
