-- The rules cut by worker are the rules: call by call, both come to the same.
use Rattle.std.proofs.Common.{◌≡◌, ℕ, Bool, true, false, cond, List, [], Option, Some, None, ◌==◌, nat_lt, refl, ap}
use Rattle.words.specs.Outcome.{Outcome, accepted, refused}
use Rattle.words.specs.declared.version.Version.{Version}
use Rattle.tables.specs.Table.{Table, insert_answer, raise_answer}
use Rattle.tables.proofs.Lengths.{put_same}
use Rattle.rules.specs.declared.entry.ReadEntry.{ReadEntry}
use Rattle.rules.specs.declared.entry.WriteEntry.{WriteEntry}
use Rattle.rules.specs.declared.call.Call.{Call}
use Rattle.rules.specs.declared.call.Call.TheVariants.{Begin, Pulse, Sync, Read, Write, Seal, Install, Stamp, Check, Commit, Abort, Look, Close, Show, Commits, Collect}
use Rattle.rules.specs.Model.{Stage, idle, open', sealed, looking, Worker, Model, table_of, with_worker}
use Rattle.rules.specs.Stamps.{last_clock, adjusted, last_stamp}
use Rattle.rules.specs.Sets.{find_read, find_write, full}
use Rattle.rules.specs.Search.{visible, search}
use Rattle.rules.specs.Rules.{Came, Done, accept, Step, to_install, to_stamp, to_check_read, to_check_write, finished, next_step, steps, gone, outcome}
use Rattle.rules.specs.Rules.{with_a_worker, with_a_cell, if_idle, if_open, if_sealed}
use Rattle.rules.specs.Rules.{upon, tick, read_new, read_known, read_written, read_in}
use Rattle.rules.specs.Rules.{written, install_step, stamp_step, check_step, abort_in, close_in}
use Rattle.rules.specs.Turns.{tick_by, read_new_by, read_in_by, written_by, install_step_by, stamp_step_by, check_step_by, abort_in_by, close_in_by, in_place, in_both, counting, turn_outcome}

-- a turn is about a, and F puts what it comes to into the model m: a refusal leaves m
module _ (m : Model) {A : Type 0} (a : A) (F : Came A → Done) (still : (n d : ℕ) → F (refused n d, a) ≡ (refused n d, m)) where
  tested : (b : Bool) {x y : Came A} {x' y' : Done} → F x ≡ x' → F y ≡ y' → F (cond b x y) ≡ cond b x' y'
  tested true p q = p
  tested false p q = q

  passed : {B : Type 0} (o : Outcome B) {k : B → Came A} {k' : B → Done} → ((b : B) → F (k b) ≡ k' b) → F (upon o a k) ≡ upon o m k'
  passed (accepted b) h = h b
  passed (refused n d) h = still n d

  when_idle : (g : Stage) {x : Came A} {x' : Done} → F x ≡ x' → F (if_idle g a x) ≡ if_idle g m x'
  when_idle idle h = h
  when_idle (open' rs ws) h = still 3 0
  when_idle (sealed rs ws k) h = still 3 0
  when_idle (looking f) h = still 3 0

  when_open : (g : Stage) {x : List ReadEntry → List WriteEntry → Came A} {x' : List ReadEntry → List WriteEntry → Done} → ((rs : List ReadEntry) (ws : List WriteEntry) → F (x rs ws) ≡ x' rs ws) → F (if_open g a x) ≡ if_open g m x'
  when_open idle h = still 3 0
  when_open (open' rs ws) h = h rs ws
  when_open (sealed rs ws k) h = still 3 0
  when_open (looking f) h = still 3 0

  when_sealed : (g : Stage) {x : List ReadEntry → List WriteEntry → ℕ → Came A} {x' : List ReadEntry → List WriteEntry → ℕ → Done} → ((rs : List ReadEntry) (ws : List WriteEntry) (k : ℕ) → F (x rs ws k) ≡ x' rs ws k) → F (if_sealed g a x) ≡ if_sealed g m x'
  when_sealed idle h = still 3 0
  when_sealed (open' rs ws) h = still 3 0
  when_sealed (sealed rs ws k) h = h rs ws k
  when_sealed (looking f) h = still 3 0

module _ (m : Model) (w : ℕ) where
  -- a worker that stays leaves the model
  same_model : with_worker m w (m.worker w) ≡ m
  same_model = λ i. record { workers = m.workers; worker = put_same m.worker w i; cells = m.cells; lists = m.lists; commits = m.commits }

  stays : (n d : ℕ) → in_place m w (refused n d, m.worker w) ≡ (refused n d, m)
  stays n d = λ i. (refused n d, same_model i)

  both_stay : (n d : ℕ) → in_both m w (refused n d, (m.worker w, m.lists)) ≡ (refused n d, m)
  both_stay n d = λ i. (refused n d, same_model i)

  keeps : (n : ℕ) → in_place m w (accept n (m.worker w)) ≡ (accepted n, m)
  keeps n = λ i. (accepted n, same_model i)

  ticks : (g : Stage) (units : ℕ) → with_a_worker m w (in_place m w (tick_by g w units (m.worker w))) ≡ tick m w units g
  ticks g units =
      let x = m.worker w in
      ap (with_a_worker m w) (when_idle m x (in_place m w) stays x.stage (tested m x (in_place m w) stays (nat_lt last_clock (adjusted x units)) (stays 5 0) refl))

  known : (o : Option ReadEntry) (x : Came Worker) (x' : Done) → in_place m w x ≡ x' → in_place m w (read_known o (m.worker w) x) ≡ read_known o m x'
  known None x x' h = h
  known (Some e) x x' h = keeps e.value

  own : (o : Option WriteEntry) (x : Came Worker) (x' : Done) → in_place m w x ≡ x' → in_place m w (read_written o (m.worker w) x) ≡ read_written o m x'
  own None x x' h = h
  own (Some e) x x' h = keeps e.value

  fresh : (c : ℕ) (rs : List ReadEntry) (ws : List WriteEntry) (seen : Outcome Version) → in_place m w (read_new_by c rs ws seen (m.worker w)) ≡ read_new m w c rs ws seen
  fresh c rs ws seen = tested m (m.worker w) (in_place m w) stays (full rs) (stays 4 0) (passed m (m.worker w) (in_place m w) stays seen (λ v. refl))

  reads : (t : Table) (c : ℕ) (g : Stage) → in_place m w (read_in_by g t w c (m.worker w)) ≡ read_in t m w c g
  reads t c idle = stays 3 0
  reads t c (open' rs ws) = own (find_write c ws) _ _ (known (find_read c rs) _ _ (fresh c rs ws (search (visible (last_stamp m w)) t c)))
  reads t c (sealed rs ws k) = stays 3 0
  reads t c (looking f) = passed m (m.worker w) (in_place m w) stays (search (visible f) t c) (λ v. keeps v.value)

  writes : (o : Option WriteEntry) (e : WriteEntry) (rs : List ReadEntry) (ws : List WriteEntry) → in_place m w (written_by o e rs ws (m.worker w)) ≡ written o m w e rs ws
  writes None e rs ws = tested m (m.worker w) (in_place m w) stays (full ws) (stays 4 0) refl
  writes (Some old) e rs ws = refl

  installs : (step : Step) (free : ℕ → ℕ) (rs : List ReadEntry) (ws : List WriteEntry) (k : ℕ) → in_both m w (install_step_by step (table_of free m) w rs ws k (m.worker w)) ≡ install_step step (table_of free m) m w rs ws k
  installs (to_install e) free rs ws k = passed m (m.worker w, m.lists) (in_both m w) both_stay (insert_answer (table_of free m) e.cell (last_stamp m w)) (λ n. refl)
  installs (to_stamp e) free rs ws k = both_stay 3 0
  installs (to_check_read e) free rs ws k = both_stay 3 0
  installs (to_check_write e) free rs ws k = both_stay 3 0
  installs finished free rs ws k = both_stay 3 0

  stamps : (step : Step) (free : ℕ → ℕ) (rs : List ReadEntry) (ws : List WriteEntry) (k : ℕ) → in_both m w (stamp_step_by step (table_of free m) w rs ws k (m.worker w)) ≡ stamp_step step (table_of free m) m w rs ws k
  stamps (to_install e) free rs ws k = both_stay 3 0
  stamps (to_stamp e) free rs ws k = passed m (m.worker w, m.lists) (in_both m w) both_stay (gone (raise_answer (table_of free m) e.cell e.stamp)) (λ n. refl)
  stamps (to_check_read e) free rs ws k = both_stay 3 0
  stamps (to_check_write e) free rs ws k = both_stay 3 0
  stamps finished free rs ws k = both_stay 3 0

  checks : (step : Step) (t : Table) (rs : List ReadEntry) (ws : List WriteEntry) (k : ℕ) → in_place m w (check_step_by step t w rs ws k (m.worker w)) ≡ check_step step t m w rs ws k
  checks (to_install e) t rs ws k = stays 3 0
  checks (to_stamp e) t rs ws k = stays 3 0
  checks (to_check_read e) t rs ws k =
      passed m (m.worker w) (in_place m w) stays (search (visible (last_stamp m w)) t e.cell)
      (λ v. tested m (m.worker w) (in_place m w) stays (v.write == e.stamp) refl (stays 10 0))
  checks (to_check_write e) t rs ws k =
      passed m (m.worker w) (in_place m w) stays (search (visible (last_stamp m w)) t e.cell)
      (λ v. tested m (m.worker w) (in_place m w) stays (nat_lt (last_stamp m w) v.read) (stays 11 0) refl)
  checks finished t rs ws k = stays 3 0

  aborts : (t : Table) (g : Stage) → t.cells ≡ m.cells → in_both m w (abort_in_by g (table_of t.free m) w (m.worker w)) ≡ abort_in m w g
  aborts t idle e = both_stay 3 0
  aborts t (open' rs ws) e = refl
  aborts t (sealed rs ws k) e = refl
  aborts t (looking f) e = both_stay 3 0

  closes : (g : Stage) → in_place m w (close_in_by g (m.worker w)) ≡ close_in m w g
  closes idle = stays 3 0
  closes (open' rs ws) = stays 3 0
  closes (sealed rs ws k) = stays 3 0
  closes (looking f) = refl

pub same_outcome : (free : ℕ → ℕ) (m : Model) (call : Call) → turn_outcome free m call ≡ outcome free m call
same_outcome free m (Begin w units) = ticks m w (open' [] []) units
same_outcome free m (Pulse w units) = ticks m w idle units
same_outcome free m (Sync w o) = refl
same_outcome free m (Read w c) = ap (λ (d : Done). with_a_worker m w (with_a_cell m c d)) (reads m w (table_of free m) c (m.worker w).stage)
same_outcome free m (Write w c x) =
    ap (λ (d : Done). with_a_worker m w (with_a_cell m c d))
    (when_open m (m.worker w) (in_place m w) (stays m w) (m.worker w).stage (λ rs ws. writes m w (find_write c ws) (record { cell = c; value = x }) rs ws))
same_outcome free m (Seal w) = ap (with_a_worker m w) (when_open m (m.worker w) (in_place m w) (stays m w) (m.worker w).stage (λ rs ws. refl))
same_outcome free m (Install w) =
    ap (with_a_worker m w)
    (when_sealed m (m.worker w, m.lists) (in_both m w) (both_stay m w) (m.worker w).stage (λ rs ws k. installs m w (next_step rs ws k) free rs ws k))
same_outcome free m (Stamp w) =
    ap (with_a_worker m w)
    (when_sealed m (m.worker w, m.lists) (in_both m w) (both_stay m w) (m.worker w).stage (λ rs ws k. stamps m w (next_step rs ws k) free rs ws k))
same_outcome free m (Check w) =
    ap (with_a_worker m w)
    (when_sealed m (m.worker w) (in_place m w) (stays m w) (m.worker w).stage (λ rs ws k. checks m w (next_step rs ws k) (table_of free m) rs ws k))
same_outcome free m (Commit w) =
    tested m m counting (λ n d. refl) (nat_lt w m.workers)
    (when_sealed m (m.worker w, m.lists) (λ came. counting (in_both m w came)) (both_stay m w) (m.worker w).stage
    (λ rs ws k. tested m (m.worker w, m.lists) (λ came. counting (in_both m w came)) (both_stay m w) (k == steps rs ws) refl (both_stay m w 3 0)))
    refl
same_outcome free m (Abort w) = ap (with_a_worker m w) (aborts m w (table_of free m) (m.worker w).stage refl)
same_outcome free m (Look w) = ap (with_a_worker m w) (when_idle m (m.worker w) (in_place m w) (stays m w) (m.worker w).stage refl)
same_outcome free m (Close w) = ap (with_a_worker m w) (closes m w (m.worker w).stage)
same_outcome free m (Show c) = refl
same_outcome free m Commits = refl
same_outcome free m (Collect c) = refl
