-- A read of a look, and collect: neither touches a pass.
use Rattle.std.proofs.Common.{◌≡◌, ℕ, ◌<◌, true, cond, ◌&&◌, eqb, ltb, List, Some, None, sym, refl, subst, inl, arith}
use Rattle.std.proofs.lemmas.Bool.Decides.{nat_tests}
use Rattle.words.specs.Outcome.{accepted}
use Rattle.words.specs.declared.status.Status.TheVariants.{Aborted}
use Rattle.words.specs.declared.version.Version.{Version}
use Rattle.tables.specs.Versions.{falls, kept}
use Rattle.tables.specs.Table.{put}
use Rattle.tables.proofs.Cuts.{cut_keeps_falling}
use Rattle.rules.specs.Model.{looking, Model, table_of, with_list}
use Rattle.rules.specs.Stamps.{last_stamp, keep_line}
use Rattle.rules.specs.Search.{visible, newest_below, search}
use Rattle.law.specs.Plain.{reads}
use Rattle.law.specs.History.{in_look, History, with_op, with_glance, has_read}
use Rattle.law.proofs.Under.{under, under_kept}
use Rattle.law.proofs.Searches.{Finds, Uncommitted}
use Rattle.law.proofs.Cross.{found_after}
use Rattle.law.proofs.Cuts.{with_versions, collects}
use Rattle.law.proofs.Lines.{line_look}
use Rattle.law.proofs.Good.{state, Good, AllGlanced, puts, leaves, keeps}
use Rattle.law.proofs.Quiet.{mine, doing_in}
use Rattle.law.proofs.Found.{visible_found, newest_below_found, found_committed}
use Rattle.law.proofs.Records.{glanced_same, recorded_versions}
use Rattle.law.proofs.Stepping.{each_list}

module _ (m : Model) (h : History) (good : Good m h) where
  -- a look's read answered the newest committed write below its floor
  pub looks_at : (w : ℕ) → w < m.workers → (f : ℕ) → (m.worker w).stage ≡ looking f → (free : ℕ → ℕ) (c : ℕ) (v : Version) → search (visible f) (table_of free m) c ≡ accepted v
      → Good m (has_read h w c v.value)
  looks_at w within f was free c v seen = keeps m h good m (has_read h w c v.value) w (m.worker w) (with_op (reads c v.value) (h.doing w)) good.pass (record {
    workers = refl;
    within = within;
    worker = leaves m.worker w (m.worker w) refl;
    doing = puts h.doing w (with_op (reads c v.value) (h.doing w));
    last = leaves h.last w (last_stamp m w) (good.last w);
    later = omega arith;
    spent = (good.clocks w).1;
    does = grind arith;
    same = λ P e. refl;
    own = λ P e r. mine m h good w within P e r;
    elsewhere = λ u n. refl;
    looks = λ g e. inl e;
    inv = good.inv;
    falling = good.falling;
    inside = good.inside;
    versions = λ d u y e. inl (y, e);
    recorded = good.recorded;
    glances = subst (λ d. AllGlanced m (state m good.pass) (with_glance c v.value d h.glances)) (sym doing) (
      record {
        from = v.write;
        is = found_committed m h good _ f c v found.1;
        below = found.1.low;
        newest = λ u x e low. found_after (state m good.pass) (keep_line m) good.inv c u x f v e low (line_look m good.some w f within was) found.1;
        under = (good.looks w f was).1;
      },
      good.glances,
    );
  })
    where
      doing : h.doing w ≡ in_look f
      doing = doing_in m h good w within (looking f) was

      found : (c < m.cells) × Finds (λ g. g ≡ Aborted) f (λ u. under u (m.lists c)) v
      found = visible_found m h good f free c v seen

  pub collecting : (free : ℕ → ℕ) (c : ℕ) (v : Version) → search (newest_below (keep_line m)) (table_of free m) c ≡ accepted v → Good (with_list m c (kept v.write (m.lists c))) h
  collecting free c v seen = keeps m h good (with_list m c (kept v.write (m.lists c))) h 0 (m.worker 0) (h.doing 0) good.pass (record {
    workers = refl;
    within = good.some;
    worker = leaves m.worker 0 (m.worker 0) refl;
    doing = leaves h.doing 0 (h.doing 0) refl;
    last = leaves h.last 0 (last_stamp m 0) (good.last 0);
    later = omega arith;
    spent = (good.clocks 0).1;
    does = good.does 0;
    same = λ P e. refl;
    own = λ P e r. mine m h good 0 good.some P e r;
    elsewhere = λ u n. refl;
    looks = λ g e. inl e;
    inv = collects (state m good.pass) (keep_line m) good.inv c v.write (v, found.1.here, found.1.done) found.1.low (λ d u. under u (ls d)) cut;
    falling = each_list (λ _ vs. falls vs ≡ true) m.lists c (kept v.write (m.lists c)) (cut_keeps_falling v.write (m.lists c) (good.falling c)) good.falling;
    inside = λ d u y e. good.inside d u y (back d u y e);
    versions = λ d u y e. inl (y, back d u y e);
    recorded = recorded_versions (state m good.pass) (λ d u. under u (ls d)) h.passes good.recorded;
    glances = glanced_same m (state m good.pass) (with_versions (state m good.pass) (λ d u. under u (ls d))) 0 good.some (λ d u _. refl) h.glances good.glances;
  })
    where
      found : (c < m.cells) × Finds Uncommitted (keep_line m) (λ u. under u (m.lists c)) v
      found = newest_below_found m h good (keep_line m) free c v seen

      ls : ℕ → List Version
      ls = put m.lists c (kept v.write (m.lists c))

      cut : (d u : ℕ) → under u (ls d) ≡ cond (eqb c d && ltb u v.write) None (under u (m.lists d))
      cut d u = grind (arith, nat_tests, under_kept)

      back : (d u : ℕ) (y : Version) → under u (ls d) ≡ Some y → under u (m.lists d) ≡ Some y
      back d u y e = let z = cut d u in grind (arith, nat_tests)
