-- What a good map shows: the newest committed values, the snapshots of looks, the floor.
use Rattle.std.proofs.Common.{◌≡◌, ℕ, ◌<◌, ◌≤◌, List, [], ◌∷◌, Some, sym, refl, ap, ◌∙◌, subst, ⊎_elim, arith}
use Rattle.std.proofs.lemmas.Bool.{cases_lt}
use Rattle.std.proofs.lemmas.Bool.Decides.{nat_tests}
use Rattle.words.specs.Outcome.{Outcome, accepted, refused}
use Rattle.words.specs.declared.version.Version.{Version}
use Rattle.tables.specs.Versions.{top}
use Rattle.rules.specs.declared.call.Call.TheVariants.{Show, Look}
use Rattle.rules.specs.Model.{Model, table_of}
use Rattle.rules.specs.Stamps.{floor, keep_line}
use Rattle.rules.specs.Search.{newest_below, search}
use Rattle.rules.specs.Rules.{accept, upon, outcome}
use Rattle.law.specs.Plain.{after, by_stamp}
use Rattle.law.specs.History.{Glance, History}
use Rattle.law.specs.Law.{Least, Snapshots}
use Rattle.law.proofs.State.{State, committed, Stands}
use Rattle.law.proofs.Lines.{floor_lower, floor_met}
use Rattle.law.proofs.Serial.{newest_held, newest_below_held}
use Rattle.law.proofs.Good.{state, Good, AllGlanced}
use Rattle.law.proofs.Found.{fitting, newest_below_found, newest_below_refused, newest_searched, found_committed}
use Rattle.law.proofs.Never.{some_committed, line_small}

module _ (m : Model) (h : History) (good : Good m h) (free : ℕ → ℕ) where
  abbrev s : State
  s = state m good.pass

  -- a committed write is not newer than the newest committed version
  newest_is : (c : ℕ) (v : Version) → search (newest_below top) (table_of free m) c ≡ accepted v → (t u : ℕ) → committed s c t ≡ Some u → t ≤ v.write
  newest_is c v e t u is =
      let f = (newest_below_found m h good top free c v e).1 in
      let fit = fitting m h good c in
      let over : (x : ℕ) → Stands s c x → v.write < x → ⊥ = λ x a above. f.between x a.0 a.1 (fit x a.0 a.1) above a.2 in
      ⊎_elim
      (λ (above : v.write < t). absurd (⊎_elim (λ a. over t a above) (λ a. over a.0 a.1 (let b = a.2 in omega arith)) (good.inv.agrees.covered c t u is)))
      (λ le. le)
      (cases_lt v.write t)

  pub shown : (c : ℕ) → c < m.cells → (outcome free m (Show c)).0 ≡ accepted (after (by_stamp h.passes) c)
  shown c in' = by (search (newest_below top) (table_of free m) c) refl
    where
      by : (o : Outcome Version) → search (newest_below top) (table_of free m) c ≡ o → (outcome free m (Show c)).0 ≡ accepted (after (by_stamp h.passes) c)
      by (accepted v) e =
          ap (λ (o : Outcome Version). (upon o m (λ v. accept v.value m)).0) (newest_searched m h good free c ∙ e) ∙
          ap accepted (sym (newest_held s (keep_line m) good.inv h.passes good.recorded c v.write v.value
          (found_committed m h good _ top c v (newest_below_found m h good top free c v e).1) (newest_is c v e)))
      by (refused n d) e = absurd (⊎_elim
          (λ a. let z = a.0 in omega arith)
          (λ a. some_committed m h good c top in' (line_small m h good) a.2)
          (newest_below_refused m h good top free c n d e))

  pub snapshots : (gs : List Glance) → AllGlanced m (state m good.pass) gs → Snapshots (by_stamp h.passes) gs
  snapshots [] a = tt
  snapshots (g ∷ gs) (a, rest) = (sym (newest_below_held s (keep_line m) good.inv h.passes good.recorded g.floor g.cell a.from g.value a.is a.below a.newest), snapshots gs rest)

  -- look answers the floor
  look_answers : (w f : ℕ) → (outcome free m (Look w)).0 ≡ accepted f → floor m ≡ f
  look_answers w f e = grind arith

  pub floors : (w f : ℕ) → (outcome free m (Look w)).0 ≡ accepted f → Least h.last m.workers f
  floors w f e = subst (Least h.last m.workers) (look_answers w f e) (record {
    lowest = grind (arith, nat_tests, floor_lower);
    worker = (floor_met m good.some).0;
    within = (floor_met m good.some).1;
    is = grind arith;
  })
