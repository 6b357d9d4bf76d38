-- Calls that change one worker, and neither lists nor passes: pulse, sync, seal, look and close, and
-- reads of what a pass knows.
use Rattle.std.proofs.Common.{◌≡◌, ℕ, ◌<◌, ◌≤◌, false, ◌⊎◌, List, ◌∷◌, Some, refl, ap, subst, inl, inr, arith}
use Rattle.std.proofs.lemmas.Bool.Decides.{nat_tests}
use Rattle.rules.specs.declared.entry.ReadEntry.{ReadEntry}
use Rattle.rules.specs.declared.entry.WriteEntry.{WriteEntry}
use Rattle.rules.specs.Model.{Stage, idle, open', sealed, looking, Worker, Model, with_worker, at_stage}
use Rattle.rules.specs.Stamps.{last_clock, adjusted, ticked, timestamp, last_stamp, floor, keep_line}
use Rattle.law.specs.Plain.{Op}
use Rattle.law.specs.History.{Doing, nothing, in_look, History, now_doing, stamped, sealing, with_op}
use Rattle.law.proofs.State.{Progress}
use Rattle.law.proofs.Lines.{floor_lower, floor_above, line_floor}
use Rattle.law.proofs.Serial.{Local}
use Rattle.law.proofs.Good.{View, Does, Known, Good, apart_stamps, Becomes, puts, leaves, keeps}

-- other workers, and another history of workers
abbrev pub with_workers : Model → (ℕ → Worker) → Model
with_workers m worker = record { workers = m.workers; worker = worker; cells = m.cells; lists = m.lists; commits = m.commits }

abbrev pub with_doing : History → (ℕ → Doing) → (ℕ → ℕ) → History
with_doing h doing last = record { doing = doing; last = last; passes = h.passes; glances = h.glances }

module _ (m : Model) (h : History) (good : Good m h) (w : ℕ) (within : w < m.workers) where
  small : (v : ℕ) → v < m.workers → v < 256
  small v l = let f = good.few in omega arith

  -- a running pass under the worker's timestamp is its own
  pub mine : (P : Progress) → good.pass (last_stamp m w) ≡ Some P → P.ended ≡ false → View (m.worker w).stage P
  mine P e r = let o = good.whose (last_stamp m w) P e r in let z = apart_stamps (m.worker w).last (m.worker o.worker).last w o.worker (small w within) (small o.worker o.within) o.is in grind (arith, nat_tests)

  -- a later clock gives a timestamp that nobody has got
  pub fresh : (a : ℕ) → (m.worker w).last < a → Known m (timestamp a w) → ⊥
  fresh a lt k = grind arith

  -- what a worker in a known stage is doing
  pub doing_in : (g : Stage) → (m.worker w).stage ≡ g → Does g (last_stamp m w) good.pass (h.doing w)
  doing_in g e = grind arith

  pub view_in : (g : Stage) → (m.worker w).stage ≡ g → (P : Progress) → View (m.worker w).stage P → View g P
  view_in g e P v = subst (λ g. View g P) e v

  pub quiet : (worker : ℕ → Worker) (doing : ℕ → Doing) (last : ℕ → ℕ) (x : Worker) (d : Doing)
      → Becomes m.worker worker w x → Becomes h.doing doing w d → Becomes h.last last w (timestamp x.last w)
      → (m.worker w).last ≤ x.last → x.last ≤ last_clock
      → Does x.stage (timestamp x.last w) good.pass d
      → ((P : Progress) → View (m.worker w).stage P → (m.worker w).last ≡ x.last)
      → ((P : Progress) → good.pass (timestamp x.last w) ≡ Some P → P.ended ≡ false → View x.stage P)
      → ((f : ℕ) → x.stage ≡ looking f → ((m.worker w).stage ≡ looking f) ⊎ ((keep_line m ≤ f) × (0 < f) × ((v : ℕ) → v < m.workers → f ≤ last_stamp m v)))
      → Good (with_workers m worker) (with_doing h doing last)
  quiet worker doing last x d to_worker to_doing to_last later spent does same own looks = keeps m h good (with_workers m worker) (with_doing h doing last) w x d good.pass (record {
    workers = refl;
    within = within;
    worker = to_worker;
    doing = to_doing;
    last = to_last;
    later = later;
    spent = spent;
    does = does;
    same = same;
    own = own;
    elsewhere = λ u n. refl;
    looks = looks;
    inv = good.inv;
    falling = good.falling;
    inside = good.inside;
    versions = λ c u y e. inl (y, e);
    recorded = good.recorded;
    glances = good.glances;
  })

  -- the worker's timestamp stays
  pub staying : (worker : ℕ → Worker) (doing : ℕ → Doing) (x : Worker) (d : Doing)
      → Becomes m.worker worker w x → Becomes h.doing doing w d → x.last ≡ (m.worker w).last
      → Does x.stage (last_stamp m w) good.pass d
      → ((P : Progress) → View (m.worker w).stage P → View x.stage P)
      → ((f : ℕ) → x.stage ≡ looking f → ((m.worker w).stage ≡ looking f) ⊎ ((keep_line m ≤ f) × (0 < f) × ((v : ℕ) → v < m.workers → f ≤ last_stamp m v)))
      → Good (with_workers m worker) (with_doing h doing h.last)
  staying worker doing x d to_worker to_doing same does views looks = grind (arith, nat_tests, quiet, mine)

  pub pulses : (units : ℕ) → (m.worker w).stage ≡ idle → adjusted (m.worker w) units ≤ last_clock
      → Good (with_worker m w (ticked (m.worker w) units idle)) (stamped h w (timestamp (adjusted (m.worker w) units) w))
  pulses units was spent =
      let x = ticked (m.worker w) units idle in
      let t = timestamp x.last w in
      quiet _ _ _ x (h.doing w) (puts m.worker w x) (leaves h.doing w (h.doing w) refl) (puts h.last w t)
      (omega arith) spent (doing_in idle was)
      (λ P v. absurd (view_in idle was P v))
      (λ P e r. absurd (fresh (adjusted (m.worker w) units) (omega arith) (good.known t P e)))
      (λ f e. absurd cc)

  pub syncs : (clock : ℕ) → Good (with_worker m w (record { clock = clock; boost = (m.worker w).boost; last = (m.worker w).last; stage = (m.worker w).stage })) h
  syncs clock = grind (arith, nat_tests, staying)

  pub seals : (rs : List ReadEntry) (ws : List WriteEntry) → (m.worker w).stage ≡ open' rs ws
      → Good (with_worker m w (at_stage (m.worker w) (sealed rs ws 0))) (now_doing h w (sealing (h.doing w)))
  seals rs ws was =
      let x = at_stage (m.worker w) (sealed rs ws 0) in
      let p = doing_in (open' rs ws) was in
      staying _ _ x (sealing (h.doing w)) (puts m.worker w x) (puts h.doing w (sealing (h.doing w))) refl
      (record { ops = p.ops; is = ap sealing p.is; runs = p.runs; local = p.local })
      (λ P v. view_in (open' rs ws) was P v)
      (λ f e. absurd cc)

  pub looks_out : (m.worker w).stage ≡ idle → Good (with_worker m w (at_stage (m.worker w) (looking (floor m)))) (now_doing h w (in_look (floor m)))
  looks_out was =
      let x = at_stage (m.worker w) (looking (floor m)) in
      staying _ _ x (in_look (floor m)) (puts m.worker w x) (puts h.doing w (in_look (floor m))) refl refl
      (λ P v. absurd (view_in idle was P v))
      (λ f e. inr (subst (λ f. (keep_line m ≤ f) × (0 < f) × ((v : ℕ) → v < m.workers → f ≤ last_stamp m v)) (same_floor f e)
      (line_floor m good.some, floor_positive, floor_lower m good.some)))
    where
      same_floor : (f : ℕ) → looking (floor m) ≡ looking f → floor m ≡ f
      same_floor f e = cc

      floor_positive : 0 < floor m
      floor_positive = floor_above m good.some 0 (λ v l. let c = (good.clocks v).0 in omega arith)

  pub closes : (f : ℕ) → (m.worker w).stage ≡ looking f → Good (with_worker m w (at_stage (m.worker w) idle)) (now_doing h w nothing)
  closes f was =
      let x = at_stage (m.worker w) idle in
      staying _ _ x nothing (puts m.worker w x) (puts h.doing w nothing) refl refl
      (λ P v. absurd (view_in (looking f) was P v))
      (λ g e. absurd cc)

  -- an open pass has read what it knows
  pub knows : (rs : List ReadEntry) (ws : List WriteEntry) (o : Op) → (m.worker w).stage ≡ open' rs ws
      → ((ops : List Op) → Local ops rs ws → Local (o ∷ ops) rs ws)
      → Good m (now_doing h w (with_op o (h.doing w)))
  knows rs ws o was local = grind arith
