-- The ways in which a call can come out, each with what its tests told. Whatever holds of each way holds of
-- every call; the rules are taken apart here, once.
use Rattle.std.proofs.Common.{◌≡◌, ℕ, ◌+◌, ◌<◌, ◌≤◌, min, max, Bool, true, false, cond, eqb, ltb, List, [], ◌∷◌, ◌++◌, length, take, Some, None, Option, refl, arith, ltb-false, ltb-true, eqb-true}
use Rattle.std.proofs.lemmas.Bool.Decides.{nat_tests}
use Rattle.words.specs.Outcome.{Outcome, accepted, refused}
use Rattle.words.specs.Refusal.{number, detail}
use Rattle.words.specs.declared.refusal.Refusal.{Refusal}
use Rattle.words.specs.declared.refusal.Refusal.TheVariants.{NoWorker, NoCell, OutOfTurn, SetFull, ClockSpent, Changed, ReadLater}
use Rattle.words.specs.declared.version.Version.{Version}
use Rattle.words.specs.Version.{new_version}
use Rattle.tables.specs.Versions.{with_version, at_stamp, raised, kept}
use Rattle.tables.specs.Table.{insert_answer, raise_answer, cut_answer}
use Rattle.rules.specs.declared.entry.ReadEntry.{ReadEntry}
use Rattle.rules.specs.declared.entry.WriteEntry.{WriteEntry}
use Rattle.rules.specs.declared.call.Call.{Call}
use Rattle.rules.specs.declared.call.Call.TheVariants.{Begin, Pulse, Sync, Read, Write, Seal, Install, Stamp, Check, Commit, Abort, Look, Close, Show, Commits, Collect}
use Rattle.rules.specs.Model.{Stage, idle, open', sealed, looking, Model, table_of, with_worker, with_list, at_stage}
use Rattle.rules.specs.Stamps.{last_clock, adjusted, ticked, timestamp, last_stamp, floor, keep_line}
use Rattle.rules.specs.Sets.{find_read, find_write, full, replaced}
use Rattle.rules.specs.Search.{visible, newest, newest_below, search}
use Rattle.rules.specs.Rules.{Done, accept, deny, upon, with_a_worker, with_a_cell, if_idle, if_open, if_sealed, tick, read_new, read_known, read_written, read_in, written, steps, Step, to_install, to_stamp, to_check_read, to_check_write, finished, next_step, stepped, install_step, stamp_step, check_step, committed, aborted, abort_in, close_in, outcome}

-- a refusal that is neither WAIT nor STAMP TAKEN nor NO VERSION
abbrev pub plain : ℕ → Bool
plain n = cond (eqb n 6) false (cond (eqb n 7) false (cond (eqb n 9) false true))

module _ (free : ℕ → ℕ) (m : Model) where
  -- why a call is refused with n and d: by itself, or because a search or an insert is
  pub data Why (call : Call) (n d : ℕ) : Type 0 where
    by_itself : plain n ≡ true → Why call n d
    at_read : (w c : ℕ) (rs : List ReadEntry) (ws : List WriteEntry) → call ≡ Read w c → w < m.workers → (m.worker w).stage ≡ open' rs ws → search (visible (last_stamp m w)) (table_of free m) c ≡ refused n d → Why call n d
    at_look : (w c f : ℕ) → call ≡ Read w c → w < m.workers → (m.worker w).stage ≡ looking f → search (visible f) (table_of free m) c ≡ refused n d → Why call n d
    at_install : (w : ℕ) (rs : List ReadEntry) (ws : List WriteEntry) (k : ℕ) (e : WriteEntry) → w < m.workers → (m.worker w).stage ≡ sealed rs ws k → next_step rs ws k ≡ to_install e → insert_answer (table_of free m) e.cell (last_stamp m w) ≡ refused n d → Why call n d
    at_check : (w : ℕ) (rs : List ReadEntry) (ws : List WriteEntry) (k c : ℕ) → call ≡ Check w → w < m.workers → (m.worker w).stage ≡ sealed rs ws k → search (visible (last_stamp m w)) (table_of free m) c ≡ refused n d → Why call n d
    at_show : (c : ℕ) → call ≡ Show c → search newest (table_of free m) c ≡ refused n d → Why call n d
    at_collect : (c : ℕ) → call ≡ Collect c → search (newest_below (keep_line m)) (table_of free m) c ≡ refused n d → Why call n d

  -- what a property has to hold of, beside refusals, to hold of every call
  pub record Ways (Q : Call → Done → Type 0) : Type 0 where
    pub begins : (w units : ℕ) → w < m.workers → (m.worker w).stage ≡ idle → adjusted (m.worker w) units ≤ last_clock
        → Q (Begin w units) (accept (timestamp (adjusted (m.worker w) units) w) (with_worker m w (ticked (m.worker w) units (open' [] []))))
    pub pulses : (w units : ℕ) → w < m.workers → (m.worker w).stage ≡ idle → adjusted (m.worker w) units ≤ last_clock
        → Q (Pulse w units) (accept (timestamp (adjusted (m.worker w) units) w) (with_worker m w (ticked (m.worker w) units idle)))
    pub syncs : (w o : ℕ) → w < m.workers → o < m.workers
        → Q (Sync w o) (accept (max (m.worker w).clock (m.worker o).clock) (with_worker m w (record { clock = max (m.worker w).clock (m.worker o).clock; boost = (m.worker w).boost; last = (m.worker w).last; stage = (m.worker w).stage })))
    pub reads_own : (w c : ℕ) (rs : List ReadEntry) (ws : List WriteEntry) (e : WriteEntry) → w < m.workers → (m.worker w).stage ≡ open' rs ws → find_write c ws ≡ Some e
        → Q (Read w c) (accept e.value m)
    pub reads_known : (w c : ℕ) (rs : List ReadEntry) (ws : List WriteEntry) (e : ReadEntry) → w < m.workers → (m.worker w).stage ≡ open' rs ws → find_write c ws ≡ None → find_read c rs ≡ Some e
        → Q (Read w c) (accept e.value m)
    pub reads_new : (w c : ℕ) (rs : List ReadEntry) (ws : List WriteEntry) (v : Version) → w < m.workers → (m.worker w).stage ≡ open' rs ws → find_write c ws ≡ None → search (visible (last_stamp m w)) (table_of free m) c ≡ accepted v
        → Q (Read w c) (accept v.value (with_worker m w (at_stage (m.worker w) (open' (rs ++ (record { cell = c; stamp = v.write; value = v.value } ∷ [])) ws))))
    pub reads_look : (w c f : ℕ) (v : Version) → w < m.workers → (m.worker w).stage ≡ looking f → search (visible f) (table_of free m) c ≡ accepted v
        → Q (Read w c) (accept v.value m)
    pub adds : (w c x : ℕ) (rs : List ReadEntry) (ws : List WriteEntry) → w < m.workers → (m.worker w).stage ≡ open' rs ws → find_write c ws ≡ None
        → Q (Write w c x) (accept (length ws + 1) (with_worker m w (at_stage (m.worker w) (open' rs (ws ++ (record { cell = c; value = x } ∷ []))))))
    pub replaces : (w c x : ℕ) (rs : List ReadEntry) (ws : List WriteEntry) (old : WriteEntry) → w < m.workers → (m.worker w).stage ≡ open' rs ws → find_write c ws ≡ Some old
        → Q (Write w c x) (accept (length ws) (with_worker m w (at_stage (m.worker w) (open' rs (replaced (record { cell = c; value = x }) ws)))))
    pub seals : (w : ℕ) (rs : List ReadEntry) (ws : List WriteEntry) → w < m.workers → (m.worker w).stage ≡ open' rs ws
        → Q (Seal w) (accept (steps rs ws) (with_worker m w (at_stage (m.worker w) (sealed rs ws 0))))
    pub installs : (w : ℕ) (rs : List ReadEntry) (ws : List WriteEntry) (k : ℕ) (e : WriteEntry) (n : ℕ) → w < m.workers → (m.worker w).stage ≡ sealed rs ws k → next_step rs ws k ≡ to_install e → insert_answer (table_of free m) e.cell (last_stamp m w) ≡ accepted n
        → Q (Install w) (stepped (with_list m e.cell (with_version (new_version (last_stamp m w) e.value) (m.lists e.cell))) w rs ws k)
    pub stamps : (w : ℕ) (rs : List ReadEntry) (ws : List WriteEntry) (k : ℕ) (e : ReadEntry) (n : ℕ) → w < m.workers → (m.worker w).stage ≡ sealed rs ws k → next_step rs ws k ≡ to_stamp e → raise_answer (table_of free m) e.cell e.stamp ≡ accepted n
        → Q (Stamp w) (stepped (with_list m e.cell (at_stamp e.stamp (raised (last_stamp m w)) (m.lists e.cell))) w rs ws k)
    pub checks_read : (w : ℕ) (rs : List ReadEntry) (ws : List WriteEntry) (k : ℕ) (e : ReadEntry) (v : Version) → w < m.workers → (m.worker w).stage ≡ sealed rs ws k → next_step rs ws k ≡ to_check_read e → search (visible (last_stamp m w)) (table_of free m) e.cell ≡ accepted v → v.write ≡ e.stamp
        → Q (Check w) (stepped m w rs ws k)
    pub checks_write : (w : ℕ) (rs : List ReadEntry) (ws : List WriteEntry) (k : ℕ) (e : WriteEntry) (v : Version) → w < m.workers → (m.worker w).stage ≡ sealed rs ws k → next_step rs ws k ≡ to_check_write e → search (visible (last_stamp m w)) (table_of free m) e.cell ≡ accepted v → v.read ≤ last_stamp m w
        → Q (Check w) (stepped m w rs ws k)
    pub commits : (w : ℕ) (rs : List ReadEntry) (ws : List WriteEntry) (k : ℕ) → w < m.workers → (m.worker w).stage ≡ sealed rs ws k → k ≡ steps rs ws
        → Q (Commit w) (accept (last_stamp m w) (committed m w ws))
    pub aborts_open : (w : ℕ) (rs : List ReadEntry) (ws : List WriteEntry) → w < m.workers → (m.worker w).stage ≡ open' rs ws
        → Q (Abort w) (accept 0 (aborted m w []))
    pub aborts_sealed : (w : ℕ) (rs : List ReadEntry) (ws : List WriteEntry) (k : ℕ) → w < m.workers → (m.worker w).stage ≡ sealed rs ws k
        → Q (Abort w) (accept (min k (length ws)) (aborted m w (take (min k (length ws)) ws)))
    pub looks : (w : ℕ) → w < m.workers → (m.worker w).stage ≡ idle → Q (Look w) (accept (floor m) (with_worker m w (at_stage (m.worker w) (looking (floor m)))))
    pub closes : (w f : ℕ) → w < m.workers → (m.worker w).stage ≡ looking f → Q (Close w) (accept 0 (with_worker m w (at_stage (m.worker w) idle)))
    pub shows : (c : ℕ) (v : Version) → search newest (table_of free m) c ≡ accepted v → Q (Show c) (accept v.value m)
    pub counts : Q Commits (accept m.commits m)
    pub collects : (c : ℕ) (v : Version) (n : ℕ) → search (newest_below (keep_line m)) (table_of free m) c ≡ accepted v → cut_answer (table_of free m) c v.write ≡ accepted n
        → Q (Collect c) (accept n (with_list m c (kept v.write (m.lists c))))

  module _ (Q : Call → Done → Type 0) (refuses : (call : Call) (n d : ℕ) → Why call n d → Q call (refused n d, m)) (ways : Ways Q) where
    -- the property of a call holds of what a rule comes to once it holds where the rule accepts
    module _ (call : Call) where
      denied : (e : Refusal) → plain (number e) ≡ true → Q call (deny e m)
      denied e h = refuses call (number e) (detail e) (by_itself h)

      turned_away : Q call (deny OutOfTurn m)
      turned_away = denied OutOfTurn refl

      -- a test, and what another rule answered
      tested : (b : Bool) {x y : Done} → (b ≡ true → Q call x) → (b ≡ false → Q call y) → Q call (cond b x y)
      tested true p q = p refl
      tested false p q = q refl

      passing : {A : Type 0} (o : Outcome A) {k : A → Done} → ((a : A) → o ≡ accepted a → Q call (k a)) → ((n d : ℕ) → o ≡ refused n d → Why call n d) → Q call (upon o m k)
      passing (accepted a) h why = h a refl
      passing (refused n d) h why = refuses call n d (why n d refl)

      of_worker : (w : ℕ) {x : Done} → (w < m.workers → Q call x) → Q call (with_a_worker m w x)
      of_worker w h = tested (ltb w m.workers) (λ b. h (ltb-true w m.workers b)) (λ _. denied NoWorker refl)

      of_cell : (c : ℕ) {x : Done} → Q call x → Q call (with_a_cell m c x)
      of_cell c h = tested (ltb c m.cells) (λ _. h) (λ _. denied NoCell refl)

      -- a worker in a stage
      when_idle : (g : Stage) {x : Done} → (g ≡ idle → Q call x) → Q call (if_idle g m x)
      when_idle idle h = h refl
      when_idle (open' rs ws) h = turned_away
      when_idle (sealed rs ws k) h = turned_away
      when_idle (looking f) h = turned_away

      when_open : (g : Stage) {x : List ReadEntry → List WriteEntry → Done} → ((rs : List ReadEntry) (ws : List WriteEntry) → g ≡ open' rs ws → Q call (x rs ws)) → Q call (if_open g m x)
      when_open idle h = turned_away
      when_open (open' rs ws) h = h rs ws refl
      when_open (sealed rs ws k) h = turned_away
      when_open (looking f) h = turned_away

      when_sealed : (g : Stage) {x : List ReadEntry → List WriteEntry → ℕ → Done} → ((rs : List ReadEntry) (ws : List WriteEntry) (k : ℕ) → g ≡ sealed rs ws k → Q call (x rs ws k)) → Q call (if_sealed g m x)
      when_sealed idle h = turned_away
      when_sealed (open' rs ws) h = turned_away
      when_sealed (sealed rs ws k) h = h rs ws k refl
      when_sealed (looking f) h = turned_away

      ticking : (w units : ℕ) (g : Stage)
          → (w < m.workers → (m.worker w).stage ≡ idle → adjusted (m.worker w) units ≤ last_clock → Q call (accept (timestamp (adjusted (m.worker w) units) w) (with_worker m w (ticked (m.worker w) units g))))
          → Q call (tick m w units g)
      ticking w units g h = of_worker w (λ l. when_idle (m.worker w).stage (λ was.
          tested (ltb last_clock (adjusted (m.worker w) units)) (λ _. denied ClockSpent refl) (λ b. h l was (ltb-false last_clock (adjusted (m.worker w) units) b))))

    module _ (w : ℕ) (within : w < m.workers) where
      module _ (c : ℕ) where
        reading_open : (rs : List ReadEntry) (ws : List WriteEntry) → (m.worker w).stage ≡ open' rs ws → (o : Option WriteEntry) → find_write c ws ≡ o → (p : Option ReadEntry) → find_read c rs ≡ p
            → Q (Read w c) (read_written o m (read_known p m (read_new m w c rs ws (search (visible (last_stamp m w)) (table_of free m) c))))
        reading_open rs ws was (Some e) is p has = ways.reads_own w c rs ws e within was is
        reading_open rs ws was None none (Some e) is = ways.reads_known w c rs ws e within was none is
        reading_open rs ws was None none None _ = tested (Read w c) (full rs) (λ _. denied (Read w c) SetFull refl) (λ _.
            passing (Read w c) (search (visible (last_stamp m w)) (table_of free m) c) (λ v is. ways.reads_new w c rs ws v within was none is) (λ n d is. at_read w c rs ws refl within was is))

        reading : (g : Stage) → (m.worker w).stage ≡ g → Q (Read w c) (read_in (table_of free m) m w c g)
        reading idle was = turned_away (Read w c)
        reading (open' rs ws) was = reading_open rs ws was (find_write c ws) refl (find_read c rs) refl
        reading (sealed rs ws k) was = turned_away (Read w c)
        reading (looking f) was = passing (Read w c) (search (visible f) (table_of free m) c) (λ v is. ways.reads_look w c f v within was is) (λ n d is. at_look w c f refl within was is)

        writing : (value : ℕ) (rs : List ReadEntry) (ws : List WriteEntry) → (m.worker w).stage ≡ open' rs ws → (o : Option WriteEntry) → find_write c ws ≡ o
            → Q (Write w c value) (written o m w (record { cell = c; value = value }) rs ws)
        writing value rs ws was None none = tested (Write w c value) (full ws) (λ _. denied (Write w c value) SetFull refl) (λ _. ways.adds w c value rs ws within was none)
        writing value rs ws was (Some old) is = ways.replaces w c value rs ws old within was is

      module _ (rs : List ReadEntry) (ws : List WriteEntry) (k : ℕ) (was : (m.worker w).stage ≡ sealed rs ws k) where
        installing : (step : Step) → next_step rs ws k ≡ step → Q (Install w) (install_step step (table_of free m) m w rs ws k)
        installing (to_install e) is = passing (Install w) (insert_answer (table_of free m) e.cell (last_stamp m w)) (λ n ok. ways.installs w rs ws k e n within was is ok) (λ n d no'. at_install w rs ws k e within was is no')
        installing (to_stamp e) is = turned_away (Install w)
        installing (to_check_read e) is = turned_away (Install w)
        installing (to_check_write e) is = turned_away (Install w)
        installing finished is = turned_away (Install w)

        stamping : (step : Step) → next_step rs ws k ≡ step → Q (Stamp w) (stamp_step step (table_of free m) m w rs ws k)
        stamping (to_install e) is = turned_away (Stamp w)
        stamping (to_stamp e) is = grind (arith, nat_tests, passing)
        stamping (to_check_read e) is = turned_away (Stamp w)
        stamping (to_check_write e) is = turned_away (Stamp w)
        stamping finished is = turned_away (Stamp w)

        checking : (step : Step) → next_step rs ws k ≡ step → Q (Check w) (check_step step (table_of free m) m w rs ws k)
        checking (to_install e) is = turned_away (Check w)
        checking (to_stamp e) is = turned_away (Check w)
        checking (to_check_read e) is = passing (Check w) (search (visible (last_stamp m w)) (table_of free m) e.cell)
            (λ v seen. tested (Check w) (eqb v.write e.stamp) (λ b. ways.checks_read w rs ws k e v within was is seen (eqb-true v.write e.stamp b)) (λ _. denied (Check w) Changed refl))
            (λ n d no'. at_check w rs ws k e.cell refl within was no')
        checking (to_check_write e) is = passing (Check w) (search (visible (last_stamp m w)) (table_of free m) e.cell)
            (λ v seen. tested (Check w) (ltb (last_stamp m w) v.read) (λ _. denied (Check w) ReadLater refl) (λ b. ways.checks_write w rs ws k e v within was is seen (ltb-false (last_stamp m w) v.read b)))
            (λ n d no'. at_check w rs ws k e.cell refl within was no')
        checking finished is = turned_away (Check w)

      aborting : (g : Stage) → (m.worker w).stage ≡ g → Q (Abort w) (abort_in m w g)
      aborting idle was = turned_away (Abort w)
      aborting (open' rs ws) was = ways.aborts_open w rs ws within was
      aborting (sealed rs ws k) was = ways.aborts_sealed w rs ws k within was
      aborting (looking f) was = turned_away (Abort w)

      closing : (g : Stage) → (m.worker w).stage ≡ g → Q (Close w) (close_in m w g)
      closing idle was = turned_away (Close w)
      closing (open' rs ws) was = turned_away (Close w)
      closing (sealed rs ws k) was = turned_away (Close w)
      closing (looking f) was = ways.closes w f within was

    pub every_way : (call : Call) → Q call (outcome free m call)
    every_way (Begin w units) = ticking (Begin w units) w units (open' [] []) (ways.begins w units)
    every_way (Pulse w units) = ticking (Pulse w units) w units idle (ways.pulses w units)
    every_way (Sync w o) = of_worker (Sync w o) w (λ l. of_worker (Sync w o) o (λ k. ways.syncs w o l k))
    every_way (Read w c) = of_worker (Read w c) w (λ l. of_cell (Read w c) c (reading w l c (m.worker w).stage refl))
    every_way (Write w c value) =
        of_worker (Write w c value) w (λ l. of_cell (Write w c value) c (when_open (Write w c value) (m.worker w).stage (λ rs ws was. writing w l c value rs ws was (find_write c ws) refl)))
    every_way (Seal w) = of_worker (Seal w) w (λ l. when_open (Seal w) (m.worker w).stage (λ rs ws was. ways.seals w rs ws l was))
    every_way (Install w) = of_worker (Install w) w (λ l. when_sealed (Install w) (m.worker w).stage (λ rs ws k was. installing w l rs ws k was (next_step rs ws k) refl))
    every_way (Stamp w) = of_worker (Stamp w) w (λ l. when_sealed (Stamp w) (m.worker w).stage (λ rs ws k was. stamping w l rs ws k was (next_step rs ws k) refl))
    every_way (Check w) = of_worker (Check w) w (λ l. when_sealed (Check w) (m.worker w).stage (λ rs ws k was. checking w l rs ws k was (next_step rs ws k) refl))
    every_way (Commit w) = of_worker (Commit w) w (λ l. when_sealed (Commit w) (m.worker w).stage (λ rs ws k was.
        tested (Commit w) (eqb k (steps rs ws)) (λ e. ways.commits w rs ws k l was (eqb-true k (steps rs ws) e)) (λ _. turned_away (Commit w))))
    every_way (Abort w) = of_worker (Abort w) w (λ l. aborting w l (m.worker w).stage refl)
    every_way (Look w) = of_worker (Look w) w (λ l. when_idle (Look w) (m.worker w).stage (λ was. ways.looks w l was))
    every_way (Close w) = of_worker (Close w) w (λ l. closing w l (m.worker w).stage refl)
    every_way (Show c) = passing (Show c) (search newest (table_of free m) c) (λ v is. ways.shows c v is) (λ n d no'. at_show c refl no')
    every_way Commits = ways.counts
    every_way (Collect c) = passing (Collect c) (search (newest_below (keep_line m)) (table_of free m) c)
        (λ v is. passing (Collect c) (cut_answer (table_of free m) c v.write) (λ n ok. ways.collects c v n is ok) (λ n d no'. by_itself (grind (arith, nat_tests))))
        (λ n d no'. at_collect c refl no')
