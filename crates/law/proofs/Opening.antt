-- begin, write and a read of the table: a pass is open, before the call or after it.
use Rattle.std.proofs.Common.{◌≡◌, ℕ, ◌<◌, ◌≤◌, false, List, [], ◌∷◌, ◌++◌, Some, None, Option, sym, refl, ap, subst, inl, ⊎_elim, arith}
use Rattle.std.proofs.lemmas.Bool.Decides.{nat_tests}
use Rattle.words.specs.Outcome.{accepted}
use Rattle.words.specs.declared.version.Version.{Version}
use Rattle.tables.specs.Table.{put}
use Rattle.rules.specs.declared.entry.ReadEntry.{ReadEntry}
use Rattle.rules.specs.declared.entry.WriteEntry.{WriteEntry}
use Rattle.rules.specs.Model.{idle, open', Worker, Model, table_of, with_worker, at_stage}
use Rattle.rules.specs.Stamps.{last_clock, adjusted, ticked, timestamp, last_stamp, keep_line}
use Rattle.rules.specs.Sets.{nth, find_write, replaced}
use Rattle.rules.specs.Search.{visible, search}
use Rattle.law.specs.Plain.{Op, reads, writes}
use Rattle.law.specs.History.{Doing, in_pass, History, now_doing, stamped, with_op}
use Rattle.law.proofs.Under.{under}
use Rattle.law.proofs.State.{Progress, Apart, committed}
use Rattle.tables.proofs.Lengths.{put_here, put_other}
use Rattle.law.proofs.Moves.{one_pass}
use Rattle.law.proofs.Opens.{opened}
use Rattle.law.proofs.Serial.{Local}
use Rattle.law.proofs.Locals.{nth_added, apart_none, apart_added, apart_replaced, local_none, local_added, local_replaced, local_read, unwritten_value}
use Rattle.law.proofs.Lines.{line_lower}
use Rattle.law.proofs.Good.{running, state, View, InPass, Does, Known, Good, Becomes, puts, leaves, keeps}
use Rattle.law.proofs.Quiet.{with_doing, doing_in, view_in}
use Rattle.law.proofs.Records.{glanced_same}
use Rattle.law.proofs.Found.{visible_found, found_committed}

module _ (m : Model) (h : History) (good : Good m h) (w : ℕ) (within : w < m.workers) where
  -- the pass under the worker's timestamp is an open one with these sets
  opening : (x : Worker) (doing : ℕ → Doing) (last : ℕ → ℕ) (d : Doing) (rs : List ReadEntry) (ws : List WriteEntry) → x.stage ≡ open' rs ws
      → Becomes h.doing doing w d → Becomes h.last last w (timestamp x.last w)
      → (m.worker w).last ≤ x.last → x.last ≤ last_clock
      → ((P : Progress) → View (m.worker w).stage P → (m.worker w).last ≡ x.last)
      → ((O : Progress) → good.pass (timestamp x.last w) ≡ Some O → (O.ended ≡ false) × (O.k ≡ 0))
      → ((c : ℕ) → under (timestamp x.last w) (m.lists c) ≡ None)
      → Apart ws
      → ((j : ℕ) (g : ReadEntry) → nth rs j ≡ Some g → (g.stamp < timestamp x.last w) × (committed (state m good.pass) g.cell g.stamp ≡ Some g.value))
      → (ops : List Op) → d ≡ in_pass (record { stamp = timestamp x.last w; ops = ops }) false → Local ops rs ws
      → Good (with_worker m w x) (with_doing h doing last)
  opening x doing last d rs ws shape to_doing to_last later spent same before unseen apart sources ops is local =
      keeps m h good (with_worker m w x) (with_doing h doing last) w x d (put good.pass t (Some P)) (record {
        workers = refl;
        within = within;
        worker = puts m.worker w x;
        doing = to_doing;
        last = to_last;
        later = later;
        spent = spent;
        does = subst (λ g. Does g t (put good.pass t (Some P)) d) (sym shape) (record { ops = ops; is = is; runs = put_here good.pass t (Some P); local = local });
        same = same;
        own = λ Q e r. subst (λ g. View g Q) (sym shape) (let z : Q ≡ P = grind arith in z);
        elsewhere = λ u n. put_other good.pass t (Some P) u n;
        looks = λ f e. absurd cc;
        inv = opened (state m good.pass) (keep_line m) good.inv t P pos low refl refl before unseen apart sources;
        falling = good.falling;
        inside = good.inside;
        versions = λ c u y e. inl (y, e);
        recorded = grind arith;
        glances = grind (arith, nat_tests, glanced_same);
      })
    where
      t : ℕ
      t = timestamp x.last w

      P : Progress
      P = running rs ws 0

      pos : 0 < t
      pos = let a = (good.clocks w).0 in omega arith

      low : keep_line m ≤ t
      low = let a = line_lower m good.some w within in omega arith

  pub begins : (units : ℕ) → (m.worker w).stage ≡ idle → adjusted (m.worker w) units ≤ last_clock
      → Good (with_worker m w (ticked (m.worker w) units (open' [] [])))
      (now_doing (stamped h w (timestamp (adjusted (m.worker w) units) w)) w (in_pass (record { stamp = timestamp (adjusted (m.worker w) units) w; ops = [] }) false))
  begins units was spent = opening x _ _ d [] [] refl (puts h.doing w d) (puts h.last w t)
      (omega arith) spent
      (λ P v. absurd (view_in m h good w within idle was P v))
      (λ O e. absurd (new (good.known t O e)))
      (λ c. unseen c (under t (m.lists c)) refl)
      apart_none (λ j g e. absurd (grind arith)) [] refl local_none
    where
      x : Worker
      x = ticked (m.worker w) units (open' [] [])

      t : ℕ
      t = timestamp (adjusted (m.worker w) units) w

      d : Doing
      d = in_pass (record { stamp = t; ops = [] }) false

      new : Known m t → ⊥
      new k = grind arith

      unseen : (c : ℕ) (o : Option Version) → under t (m.lists c) ≡ o → o ≡ None
      unseen c None e = refl
      unseen c (Some y) e = grind arith

  -- an open pass goes on
  module _ (rs : List ReadEntry) (ws : List WriteEntry) (was : (m.worker w).stage ≡ open' rs ws) where
    here : InPass (last_stamp m w) good.pass rs ws 0 false (h.doing w)
    here = doing_in m h good w within (open' rs ws) was

    goes_on : (rs' : List ReadEntry) (ws' : List WriteEntry) (o : Op) → Apart ws'
        → ((j : ℕ) (g : ReadEntry) → nth rs' j ≡ Some g → (g.stamp < last_stamp m w) × (committed (state m good.pass) g.cell g.stamp ≡ Some g.value))
        → Local (o ∷ here.ops) rs' ws'
        → Good (with_worker m w (at_stage (m.worker w) (open' rs' ws'))) (now_doing h w (with_op o (h.doing w)))
    goes_on rs' ws' o apart sources local = opening (at_stage (m.worker w) (open' rs' ws')) _ h.last (with_op o (h.doing w)) rs' ws' refl
        (puts h.doing w (with_op o (h.doing w))) (leaves h.last w (last_stamp m w) (good.last w))
        (omega arith) (good.clocks w).1 (λ P v. refl)
        (λ O e. let q = one_pass (state m good.pass) (last_stamp m w) (running rs ws 0) O here.runs e in (cc, cc))
        (λ c. good.inv.agrees.missing (last_stamp m w) (running rs ws 0) c (here.runs, refl) refl)
        apart sources (o ∷ here.ops) (ap (with_op o) here.is) local

    known : (j : ℕ) (g : ReadEntry) → nth rs j ≡ Some g → (g.stamp < last_stamp m w) × (committed (state m good.pass) g.cell g.stamp ≡ Some g.value)
    known j g e = good.inv.sources (last_stamp m w) (running rs ws 0) j g here.runs e

    alone : Apart ws
    alone = good.inv.apart (last_stamp m w) (running rs ws 0) here.runs

    pub adds : (e : WriteEntry) → find_write e.cell ws ≡ None
        → Good (with_worker m w (at_stage (m.worker w) (open' rs (ws ++ (e ∷ []))))) (now_doing h w (with_op (writes e.cell e.value) (h.doing w)))
    adds e new = goes_on rs (ws ++ (e ∷ [])) (writes e.cell e.value) (apart_added ws e alone (unwritten_value e.cell ws new)) known (local_added here.ops rs ws e new here.local)

    pub replaces : (e o : WriteEntry) → find_write e.cell ws ≡ Some o
        → Good (with_worker m w (at_stage (m.worker w) (open' rs (replaced e ws)))) (now_doing h w (with_op (writes e.cell e.value) (h.doing w)))
    replaces e o old = goes_on rs (replaced e ws) (writes e.cell e.value) (apart_replaced ws e alone) known (local_replaced here.ops rs ws e o old here.local)

    pub reads_new : (free : ℕ → ℕ) (c : ℕ) (v : Version) → find_write c ws ≡ None → search (visible (last_stamp m w)) (table_of free m) c ≡ accepted v
        → Good (with_worker m w (at_stage (m.worker w) (open' (rs ++ (record { cell = c; stamp = v.write; value = v.value } ∷ [])) ws))) (now_doing h w (with_op (reads c v.value) (h.doing w)))
    reads_new free c v none seen = goes_on (rs ++ (g ∷ [])) ws (reads c v.value) alone
        (λ j r e. ⊎_elim (λ a. known j r a.0) (λ a. subst (λ (r : ReadEntry). (r.stamp < last_stamp m w) × (committed (state m good.pass) r.cell r.stamp ≡ Some r.value)) (sym a.0) source) (nth_added rs g j r e))
        (local_read here.ops rs ws g none here.local)
      where
        g : ReadEntry
        g = record { cell = c; stamp = v.write; value = v.value }

        source : (v.write < last_stamp m w) × (committed (state m good.pass) c v.write ≡ Some v.value)
        source = let f = visible_found m h good (last_stamp m w) free c v seen in (f.1.low, found_committed m h good _ (last_stamp m w) c v f.1)
