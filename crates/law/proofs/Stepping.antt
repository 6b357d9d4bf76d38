-- install, stamp and check: a sealed pass does its next step.
use Rattle.std.proofs.Common.{◌≡◌, ℕ, ◌+◌, ◌-◌, ◌*◌, ◌<◌, ◌≤◌, true, false, cond, ◌&&◌, eqb, ◌⊎◌, List, length, Some, sym, refl, ap, ◌∙◌, subst, inl, arith}
use Rattle.std.proofs.lemmas.Bool.{cases_eq}
use Rattle.std.proofs.lemmas.Bool.Decides.{nat_tests}
use Rattle.words.specs.Outcome.{accepted}
use Rattle.words.specs.Version.{new_version}
use Rattle.words.specs.declared.status.Status.TheVariants.{Aborted}
use Rattle.words.specs.declared.version.Version.{Version}
use Rattle.tables.specs.Versions.{holds, falls, with_version, at_stamp, raised}
use Rattle.tables.specs.Table.{put, insert_answer}
use Rattle.tables.proofs.Order.{falls_with, falls_at_stamp}
use Rattle.rules.specs.declared.entry.ReadEntry.{ReadEntry}
use Rattle.rules.specs.declared.entry.WriteEntry.{WriteEntry}
use Rattle.rules.specs.Model.{sealed, Worker, Model, table_of, with_worker, with_list, with_lists, at_stage}
use Rattle.rules.specs.Stamps.{last_stamp, keep_line}
use Rattle.rules.specs.Sets.{nth}
use Rattle.rules.specs.Search.{visible, search}
use Rattle.rules.specs.Rules.{to_install, to_stamp, to_check_read, to_check_write, next_step}
use Rattle.law.specs.History.{History}
use Rattle.law.proofs.Under.{under, change, under_with, under_changed}
use Rattle.law.proofs.State.{Progress, State, Inv}
use Rattle.law.proofs.Prefixes.{nth_same, nth_short}
use Rattle.law.proofs.Searches.{Finds}
use Rattle.law.proofs.Cross.{cross_read, cross_write}
use Rattle.tables.proofs.Lengths.{put_other}
use Rattle.law.proofs.Moves.{moved}
use Rattle.law.proofs.Goes.{Same, stays, goes}
use Rattle.law.proofs.Installs.{installs}
use Rattle.law.proofs.Good.{running, state, InPass, Good, puts, leaves, keeps}
use Rattle.law.proofs.Quiet.{doing_in}
use Rattle.law.proofs.Records.{glanced_same}
use Rattle.law.proofs.Found.{visible_found}
use Rattle.law.proofs.Turns.{turn}

-- a property of every list, where one is changed
pub each_list : {A : Type 0} (Q : ℕ → A → Type 0) (f : ℕ → A) (c : ℕ) (x : A) → Q c x → ((d : ℕ) → Q d (f d)) → (d : ℕ) → Q d (put f c x d)
each_list Q f c x new old d = grind arith

module _ (m : Model) (h : History) (good : Good m h) (w : ℕ) (within : w < m.workers)
    (rs : List ReadEntry) (ws : List WriteEntry) (k : ℕ) (was : (m.worker w).stage ≡ sealed rs ws k) where
  abbrev t : ℕ
  t = last_stamp m w

  abbrev s : State
  s = state m good.pass

  abbrev P : Progress
  P = running rs ws k

  here : InPass t good.pass rs ws k true (h.doing w)
  here = doing_in m h good w within (sealed rs ws k) was

  -- the versions of a step: they were there, or are the pass's own
  abbrev OldOrOwn : ℕ → List Version → Type 0
  OldOrOwn c vs = (u : ℕ) (y : Version) → under u vs ≡ Some y → ((z : Version) × (under u (m.lists c) ≡ Some z)) ⊎ (u ≡ last_stamp m w)

  -- one more step is done, and the lists are ls
  stepping : (ls : ℕ → List Version) → ((c : ℕ) → falls (ls c) ≡ true) → ((c u : ℕ) (y : Version) → under u (ls c) ≡ Some y → c < m.cells) → ((c : ℕ) → OldOrOwn c (ls c))
      → Inv (moved (state m good.pass) (last_stamp m w) (running rs ws (k + 1)) (λ c u. under u (ls c))) (keep_line m)
      → Good (with_worker (with_lists m ls) w (at_stage (m.worker w) (sealed rs ws (k + 1)))) h
  stepping ls falling inside versions inv = keeps m h good (with_worker (with_lists m ls) w x) h w x (h.doing w) (put good.pass t (Some N)) (record {
    workers = refl;
    within = within;
    worker = puts m.worker w x;
    doing = leaves h.doing w (h.doing w) refl;
    last = leaves h.last w t (good.last w);
    later = omega arith;
    spent = (good.clocks w).1;
    does = grind arith;
    same = λ Q v. refl;
    own = grind arith;
    elsewhere = λ u n. put_other good.pass t (Some N) u n;
    looks = λ f e. absurd cc;
    inv = inv;
    falling = falling;
    inside = inside;
    versions = versions;
    recorded = grind arith;
    glances = grind (arith, nat_tests, glanced_same);
  })
    where
      N : Progress
      N = running rs ws (k + 1)

      x : Worker
      x = at_stage (m.worker w) (sealed rs ws (k + 1))

  -- the lists stay
  unlisted : Inv (moved (state m good.pass) (last_stamp m w) (running rs ws (k + 1)) (λ c u. under u (m.lists c))) (keep_line m)
      → Good (with_worker m w (at_stage (m.worker w) (sealed rs ws (k + 1)))) h
  unlisted inv = grind (arith, nat_tests, stepping)

  pub installing : (free : ℕ → ℕ) (e : WriteEntry) (n : ℕ) → next_step rs ws k ≡ to_install e → insert_answer (table_of free m) e.cell (last_stamp m w) ≡ accepted n
      → Good (with_worker (with_list m e.cell (with_version (new_version (last_stamp m w) e.value) (m.lists e.cell))) w (at_stage (m.worker w) (sealed rs ws (k + 1)))) h
  installing free e n next ok = stepping (put m.lists e.cell (with_version new (m.lists e.cell)))
      (each_list (λ _ vs. falls vs ≡ true) m.lists e.cell (with_version new (m.lists e.cell)) (falls_with new (m.lists e.cell) untaken (good.falling e.cell)) good.falling)
      (λ c. each_list (λ c vs. (u : ℕ) (y : Version) → under u vs ≡ Some y → c < m.cells) m.lists e.cell (with_version new (m.lists e.cell)) (λ u y q. in_cell) good.inside c)
      (each_list OldOrOwn m.lists e.cell (with_version new (m.lists e.cell)) new_or_old (λ c u y q. inl (y, q)))
      (installs s (keep_line m) good.inv t P (here.runs, refl) e (turn rs ws k (to_install e) next) (λ c u. under u (put m.lists e.cell (with_version new (m.lists e.cell)) c)) with_it)
    where
      new : Version
      new = new_version (last_stamp m w) e.value

      untaken : holds (last_stamp m w) (m.lists e.cell) ≡ false
      untaken = grind arith

      in_cell : e.cell < m.cells
      in_cell = grind arith

      new_or_old : OldOrOwn e.cell (with_version new (m.lists e.cell))
      new_or_old u y q = grind (arith, nat_tests, under_with)

      with_it : (c u : ℕ) → under u (put m.lists e.cell (with_version new (m.lists e.cell)) c) ≡ cond (eqb e.cell c && eqb (last_stamp m w) u) (Some new) (under u (m.lists c))
      with_it c u = grind (arith, nat_tests, under_with)

  pub stamping : (e : ReadEntry) → next_step rs ws k ≡ to_stamp e
      → Good (with_worker (with_list m e.cell (at_stamp e.stamp (raised (last_stamp m w)) (m.lists e.cell))) w (at_stage (m.worker w) (sealed rs ws (k + 1)))) h
  stamping e next = stepping ls
      (each_list (λ _ vs. falls vs ≡ true) m.lists e.cell changed (falls_at_stamp e.stamp (raised (last_stamp m w)) (λ v. refl) (m.lists e.cell) (good.falling e.cell)) good.falling)
      (λ c u y q. let z = back c u y q in good.inside c u z.0 z.1)
      (λ c u y q. let z = back c u y q in inl (z.0, z.1))
      (goes s (keep_line m) good.inv t P (here.runs, refl) next_is.0 (λ c u. under u (ls c)) (record { back = back; on = on })
      (λ j g y n q r. raised_read j g y n q r)
      (λ j v g u Q n q. absurd (let z = nth_short rs (k - length ws) e next_is.1 in omega (arith, next_is.0)))
      (λ n f q r. absurd (let z = nth_short rs (k - length ws) e next_is.1 in omega (arith, next_is.0))))
    where
      changed : List Version
      changed = at_stamp e.stamp (raised (last_stamp m w)) (m.lists e.cell)

      ls : ℕ → List Version
      ls = put m.lists e.cell changed

      next_is : (length ws ≤ k) × (nth rs (k - length ws) ≡ Some e)
      next_is = turn rs ws k (to_stamp e) next

      at_changed : (c u : ℕ) → under u (ls c) ≡ cond (eqb e.cell c && eqb e.stamp u) (change (raised (last_stamp m w)) (under u (m.lists c))) (under u (m.lists c))
      at_changed c u = grind (arith, nat_tests, under_changed, cases_eq c e.cell)

      back : (c u : ℕ) (y : Version) → under u (ls c) ≡ Some y → (x : Version) × (under u (m.lists c) ≡ Some x) × Same x y
      back c u y q = let z = at_changed c u in grind (arith, nat_tests)

      on : (c u : ℕ) (x : Version) → under u (m.lists c) ≡ Some x → (y : Version) × (under u (ls c) ≡ Some y) × Same x y
      on c u x q = grind (arith, nat_tests, at_changed)

      raised_read : (j : ℕ) (g : ReadEntry) (y : Version) → nth rs j ≡ Some g → length ws + j ≡ k → under g.stamp (ls g.cell) ≡ Some y → last_stamp m w ≤ y.read
      raised_read j g y n q r =
          let same = nth_same rs j (k - length ws) g e n next_is.1 (omega arith) in
          let z = at_changed e.cell e.stamp in grind (arith, nat_tests)

  pub checking_read : (free : ℕ → ℕ) (e : ReadEntry) (v : Version) → next_step rs ws k ≡ to_check_read e → search (visible (last_stamp m w)) (table_of free m) e.cell ≡ accepted v → v.write ≡ e.stamp
      → Good (with_worker m w (at_stage (m.worker w) (sealed rs ws (k + 1)))) h
  checking_read free e v next seen same = unlisted (goes s (keep_line m) good.inv t P (here.runs, refl) (omega (arith, next_is.0)) (λ c u. under u (m.lists c)) (stays (λ c u. under u (m.lists c)))
      (λ j g y n q r. absurd (let z = nth_short rs j g n in omega (arith, next_is.0)))
      (λ j x g u Q n q h' wrote above below.
      let it = nth_same rs j (k - (length ws + length rs)) g e n next_is.1 (omega arith) in
      cross_read s (keep_line m) good.inv t low g v
      (subst (λ (g : ReadEntry). Finds' g.cell) (sym it) (visible_found m h good (last_stamp m w) free e.cell v seen).1)
      (same ∙ ap (λ (z : ReadEntry). z.stamp) (sym it)) u Q x h' wrote above below)
      (λ n f q r. absurd (let z = nth_short rs (k - (length ws + length rs)) e next_is.1 in omega (arith, next_is.0))))
    where
      next_is : (length ws + length rs ≤ k) × (nth rs (k - (length ws + length rs)) ≡ Some e)
      next_is = turn rs ws k (to_check_read e) next

      low : keep_line m ≤ last_stamp m w
      low = good.inv.line_below (last_stamp m w) P (here.runs, refl)

      Finds' : ℕ → Type 0
      Finds' c = Finds (λ g. g ≡ Aborted) (last_stamp m w) (λ u. under u (m.lists c)) v

  pub checking_write : (free : ℕ → ℕ) (e : WriteEntry) (v : Version) → next_step rs ws k ≡ to_check_write e → search (visible (last_stamp m w)) (table_of free m) e.cell ≡ accepted v → v.read ≤ last_stamp m w
      → Good (with_worker m w (at_stage (m.worker w) (sealed rs ws (k + 1)))) h
  checking_write free e v next seen low_read = unlisted (goes s (keep_line m) good.inv t P (here.runs, refl) (omega (arith, next_is.0)) (λ c u. under u (m.lists c)) (stays (λ c u. under u (m.lists c)))
      (λ j g y n q r. absurd (let z = nth_short rs j g n in omega (arith, next_is.0)))
      (λ j x g u Q n q. absurd (let z = nth_short rs j g n in omega (arith, next_is.0)))
      (λ n f q r j g u Q h' p far same above below.
      let it = nth_same ws n (k - (length ws + 2 * length rs)) f e q next_is.1 (omega arith) in
      cross_write s (keep_line m) good.inv t low e.cell v (visible_found m h good (last_stamp m w) free e.cell v seen).1 low_read
      u Q j g h' p far (same ∙ ap (λ (z : WriteEntry). z.cell) it) above below))
    where
      next_is : (length ws + 2 * length rs ≤ k) × (nth ws (k - (length ws + 2 * length rs)) ≡ Some e)
      next_is = turn rs ws k (to_check_write e) next

      low : keep_line m ≤ last_stamp m w
      low = good.inv.line_below (last_stamp m w) P (here.runs, refl)
