-- commit and abort: the worker is idle, and every version of its pass has ended.
use Rattle.std.proofs.Common.{◌≡◌, ℕ, zero, suc, ◌-◌, ◌<◌, Bool, true, false, cond, eqb, List, [], ◌∷◌, take, Some, None, Option, sym, refl, ap, ◌∙◌, subst, inl, arith}
use Rattle.std.proofs.lemmas.List.{take_all}
use Rattle.std.proofs.lemmas.Bool.Decides.{nat_tests}
use Rattle.words.specs.declared.status.Ending.{Ending}
use Rattle.words.specs.declared.status.Ending.TheVariants.{Commit as Commits', Abort as Aborts'}
use Rattle.words.specs.declared.version.Version.{Version}
use Rattle.tables.specs.Versions.{falls, at_stamp, marked}
use Rattle.tables.specs.Table.{put}
use Rattle.tables.proofs.Order.{falls_at_stamp}
use Rattle.rules.specs.declared.entry.ReadEntry.{ReadEntry}
use Rattle.rules.specs.declared.entry.WriteEntry.{WriteEntry}
use Rattle.rules.specs.Model.{idle, Worker, Model, with_worker, with_lists, with_commits}
use Rattle.rules.specs.Stamps.{last_stamp, keep_line}
use Rattle.rules.specs.Sets.{nth}
use Rattle.rules.specs.Rules.{steps, ended_one, ended_all, committed, aborted}
use Rattle.law.specs.Plain.{Pass}
use Rattle.law.specs.History.{nothing, History, now_doing, with_pass, has_committed}
use Rattle.law.proofs.Under.{under, change}
use Rattle.law.proofs.State.{Progress, State, Apart, value_in, Inv}
use Rattle.tables.proofs.Lengths.{put_here, put_other}
use Rattle.law.proofs.Ends.{full_of, left, committed_left, commits, aborts}
use Rattle.law.proofs.Marks.{Markable, all_marked}
use Rattle.law.proofs.Serial.{Recorded}
use Rattle.law.proofs.Good.{running, state, InPass, Good, puts, leaves, keeps}
use Rattle.law.proofs.Records.{glanced_same, recorded_aborted, recorded_committed}
use Rattle.law.proofs.Stepping.{each_list}

-- the first entries of a set have no cell twice
nth_part : (k : ℕ) (ws : List WriteEntry) (j : ℕ) (e : WriteEntry) → nth (take k ws) j ≡ Some e → nth ws j ≡ Some e
nth_part zero ws j e h = absurd (grind arith)
nth_part (suc k) [] j e h = h
nth_part (suc k) (w ∷ ws) j e h = grind (arith, nat_tests, nth_part k ws (j - 1) e)

part_lacks : (k j : ℕ) (ws : List WriteEntry) (c : ℕ) → value_in (take j ws) c ≡ None → value_in (take j (take k ws)) c ≡ None
part_lacks zero zero ws c h = refl
part_lacks zero (suc j) ws c h = refl
part_lacks (suc k) zero ws c h = refl
part_lacks (suc k) (suc j) [] c h = refl
part_lacks (suc k) (suc j) (w ∷ ws) c h = grind (arith, nat_tests, part_lacks k j ws c)

apart_part : (k : ℕ) (ws : List WriteEntry) → Apart ws → Apart (take k ws)
apart_part k ws apart j e h = part_lacks k j ws e.cell (apart j e (nth_part k ws j e h))

-- marks keep the order of stamps
marks_fall : (how : Ending) (cells t : ℕ) (ws : List WriteEntry) (ls : ℕ → List Version) → ((c : ℕ) → falls (ls c) ≡ true) → (c : ℕ) → falls (ended_all how cells t ls ws c) ≡ true
marks_fall how cells t [] ls h c = h c
marks_fall how cells t (e ∷ es) ls h c = marks_fall how cells t es (ended_one how cells t ls e) one c
  where
    one : (d : ℕ) → falls (ended_one how cells t ls e d) ≡ true
    one d =
        let a = h d in
        let b = each_list (λ _ vs. falls vs ≡ true) ls e.cell (at_stamp t (marked how) (ls e.cell)) (falls_at_stamp t (marked how) (λ v. refl) (ls e.cell) (h e.cell)) h d in
        grind arith

module _ (m : Model) (h : History) (good : Good m h) (w : ℕ) (within : w < m.workers)
    (rs : List ReadEntry) (ws : List WriteEntry) (k : ℕ) (shut : Bool) (here : InPass (last_stamp m w) good.pass rs ws k shut (h.doing w)) where
  abbrev t : ℕ
  t = last_stamp m w

  abbrev s : State
  s = state m good.pass

  abbrev P : Progress
  P = running rs ws k

  -- the marks of what is installed reach every version of the pass
  ended_versions : (how : Ending) (vs : List WriteEntry) → vs ≡ take k ws
      → (c u : ℕ) → under u (ended_all how m.cells (last_stamp m w) m.lists vs c) ≡ cond (eqb (last_stamp m w) u) (change (marked how) (under u (m.lists c))) (under u (m.lists c))
  ended_versions how vs part c u =
      let a = all_marked how m.cells t (take k ws) m.lists (apart_part k ws (good.inv.apart t P here.runs)) able c u in
      let n = good.inv.agrees.missing t P c (here.runs, refl) in
      rw part (grind (arith, nat_tests))
    where
      able : Markable m.cells (last_stamp m w) m.lists (take k ws)
      able d v e = let x = good.inv.agrees.there t P d v (here.runs, refl) e in grind (arith, nat_tests)

  -- the worker is idle, with the boost b; the lists are those with the marks
  ending : (how : Ending) (vs : List WriteEntry) → vs ≡ take k ws → (b n : ℕ) (next : Option Progress) (ps : List Pass)
      → ((Q : Progress) → next ≡ Some Q → Q.ended ≡ false → ⊥)
      → Inv (left (state m good.pass) (last_stamp m w) next (λ c u. under u (ended_all how m.cells (last_stamp m w) m.lists vs c))) (keep_line m)
      → Recorded (left (state m good.pass) (last_stamp m w) next (λ c u. under u (ended_all how m.cells (last_stamp m w) m.lists vs c))) ps
      → Good (with_commits (with_worker (with_lists m (ended_all how m.cells (last_stamp m w) m.lists vs)) w (record { clock = (m.worker w).clock; boost = b; last = (m.worker w).last; stage = idle })) n)
      (record { doing = put h.doing w nothing; last = h.last; passes = ps; glances = h.glances })
  ending how vs part b n next ps over inv recorded = keeps m h good _ _ w x nothing (put good.pass t next) (record {
    workers = refl;
    within = within;
    worker = puts m.worker w x;
    doing = puts h.doing w nothing;
    last = leaves h.last w t (good.last w);
    later = omega arith;
    spent = (good.clocks w).1;
    does = refl;
    same = λ Q v. refl;
    own = λ Q e r. over Q (sym (put_here good.pass t next) ∙ e) r;
    elsewhere = λ u o. put_other good.pass t next u o;
    looks = λ f e. absurd cc;
    inv = inv;
    falling = marks_fall how m.cells t vs m.lists good.falling;
    inside = grind (arith, nat_tests, was_there);
    versions = λ c u y e. inl (was_there c u y e);
    recorded = recorded;
    glances = glanced_same m s (left s t next (λ c u. under u (ls c))) w within (λ c u low. committed_left s t next (λ c u. under u (ls c)) c u (λ e. omega arith)) h.glances good.glances;
  })
    where
      ls : ℕ → List Version
      ls = ended_all how m.cells (last_stamp m w) m.lists vs

      x : Worker
      x = record { clock = (m.worker w).clock; boost = b; last = (m.worker w).last; stage = idle }

      was_there : (c u : ℕ) (y : Version) → under u (ls c) ≡ Some y → (z : Version) × (under u (m.lists c) ≡ Some z)
      was_there c u y e = grind (arith, nat_tests, ended_versions)

  pub aborting : (vs : List WriteEntry) → vs ≡ take k ws → Good (aborted m w vs) (now_doing h w nothing)
  aborting vs part = ending Aborts' vs part 10 m.commits None h.passes
      (λ Q e r. absurd (grind arith))
      (aborts s (keep_line m) good.inv t P (here.runs, refl) _ (ended_versions Aborts' vs part))
      (recorded_aborted s t P (here.runs, refl) _ h.passes good.recorded)

  pub committing : k ≡ steps rs ws → Good (committed m w ws) (has_committed h w)
  committing all = subst (λ ps. Good (committed m w ws) (record { doing = put h.doing w nothing; last = h.last; passes = ps; glances = h.glances })) (sym (ap (λ d. with_pass d h.passes) here.is))
      (ending Commits' ws whole 0 _ (Some (full_of P)) (record { stamp = t; ops = here.ops } ∷ h.passes)
      (λ Q e r. cc)
      (commits s (keep_line m) good.inv t P (here.runs, refl) _ all (ended_versions Commits' ws whole))
      (recorded_committed s t P (here.runs, refl) _ h.passes good.recorded here.ops here.local))
    where
      whole : ws ≡ take k ws
      whole = sym (take_all k ws (omega arith))
