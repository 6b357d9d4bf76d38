-- The law, from what holds of the model beside the history all along a run.
use Rattle.std.proofs.Common.{◌≡◌, ℕ, true, List, [], ◌∷◌, ◌++◌, Some, sym, refl, ap, subst, inl, inr, arith}
use Rattle.std.proofs.lemmas.Bool.Decides.{nat_tests}
use Rattle.words.specs.declared.status.Status.TheVariants.{Pending}
use Rattle.words.specs.declared.version.Version.{Version}
use Rattle.tables.specs.Versions.{holds_pending}
use Rattle.tables.specs.Table.{Table}
use Rattle.rules.specs.Model.{Model, workers_of}
use Rattle.rules.specs.Rules.{Done}
use Rattle.rules.proofs.Sizes.{sizes_stay}
use Rattle.law.specs.History.{Event, history, told_with}
use Rattle.rules.specs.Beneath.{Beneath}
use Rattle.law.specs.Run.{Run, made, more}
use Rattle.law.specs.Law.{Faithful, Least, answered, LawOfRuns}
use Rattle.law.proofs.Under.{under, pending_under}
use Rattle.law.proofs.Serial.{replays}
use Rattle.law.proofs.Good.{Good}
use Rattle.law.proofs.Keeps.{call_keeps}
use Rattle.law.proofs.Tied.{Tied, call_tied}
use Rattle.law.proofs.First.{first_good}
use Rattle.law.proofs.Never.{pending_sealed, looks_never_wait, earliest_never_waits, never_odd}
use Rattle.law.proofs.Shown.{shown, snapshots, floors}

-- what holds after every call of a run
pub record Stands (workers cells : ℕ) (es : List Event) (t : Table) (m : Model) : Type 0 where
  pub good : Good m (history es)
  pub tied : Tied t m
  pub workers_are : m.workers ≡ workers_of workers
  pub cells_are : m.cells ≡ cells

pub run_stands : (workers cells : ℕ) (es : List Event) (t : Table) (m : Model) → Run workers cells es t m → Stands workers cells es t m
run_stands workers cells es t m (made clear size is) = grind (arith, nat_tests, first_good)
run_stands workers cells es t m (more {es = es₀} {t = t₀} {m = m₀} call answer run is steps) =
    let before = run_stands workers cells es₀ t₀ m₀ run in
    let sizes = sizes_stay t₀.free m₀ call in
    record {
      good = subst (λ (d : Done). Good d.1 (told_with call d.0 (history es₀))) is (call_keeps m₀ (history es₀) before.good t₀.free call);
      tied = subst (λ (d : Done). Beneath t₀ m₀ call d.0 t → Tied t d.1) is (call_tied t₀ m₀ before.tied call t) steps;
      workers_are = grind arith;
      cells_are = grind arith;
    }

-- each event was answered by the rules
not_empty : (late early : List Event) (e : Event) → [] ≡ late ++ (e ∷ early) → ⊥
not_empty [] early e q = cc
not_empty (x ∷ late) early e q = cc

first_same : (x y : Event) (xs ys : List Event) → x ∷ xs ≡ y ∷ ys → (x ≡ y) × (xs ≡ ys)
first_same x y xs ys q = (cc, cc)

pub run_faithful : (workers cells : ℕ) (es : List Event) (t : Table) (m : Model) → Run workers cells es t m → Faithful workers cells es
run_faithful workers cells es t m (made clear size is) late early e q = absurd (not_empty late early e q)
run_faithful workers cells es t m (more {es = es₀} {t = t₀} {m = m₀} call answer run is steps) [] early e q =
    let r = first_same (record { call = call; answer = answer }) e es₀ early q in
    (t₀, (m₀, subst (λ es. Run workers cells es t₀ m₀) r.1 run, subst (λ (e : Event). e.answer ≡ answered t₀ m₀ e.call) r.0 (ap (λ (d : Done). d.0) (sym is))))
run_faithful workers cells es t m (more {es = es₀} {t = t₀} {m = m₀} call answer run is steps) (x ∷ late) early e q =
    run_faithful workers cells es₀ t₀ m₀ run late early e (first_same (record { call = call; answer = answer }) x es₀ (late ++ (e ∷ early)) q).1

-- a pending version of a list, by its stamp
found_pending : (s : ℕ) (vs : List Version) → holds_pending s vs ≡ true → (x : Version) × (under s vs ≡ Some x) × (x.status ≡ Pending)
found_pending s vs e = grind (arith, nat_tests, pending_under)

pub law_of_runs : LawOfRuns
law_of_runs workers cells es t m run =
    let st = run_stands workers cells es t m run in
    let good = st.good in
    record {
      faithful = run_faithful workers cells es t m run;
      serial = grind (arith, nat_tests, replays);
      shown = λ c l. shown m (history es) good t.free c (let e = st.cells_are in omega arith);
      snapshots = snapshots m (history es) good t.free (history es).glances good.glances;
      looks_never_wait = λ w f d call. looks_never_wait m (history es) good t.free w f d call;
      floors = λ w f e. subst (λ n. Least (history es).last n f) st.workers_are (floors m (history es) good t.free w f e);
      earliest_never_waits = λ w d call. earliest_never_waits m (history es) good t.free w d call;
      never_taken = λ d call. never_odd m (history es) good t.free 7 d call (inl refl);
      never_missing = λ d call. never_odd m (history es) good t.free 9 d call (inr refl);
      pending_sealed = λ c s e.
          let x = found_pending s (m.lists c) (subst (λ (ls : ℕ → List Version). holds_pending s (ls c) ≡ true) st.tied.versions e) in
          let p = pending_sealed m (history es) good c s x.0 x.1 x.2 in
          (p.0, (p.1.0, p.1.1, p.1.2));
    }
