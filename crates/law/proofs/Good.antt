-- What holds of a model beside the history of its calls, and what is left to show where a call
-- changes one worker and perhaps the lists.
use Rattle.std.proofs.Common.{◌≡◌, ℕ, ◌+◌, ◌*◌, ◌<◌, ◌≤◌, Bool, true, false, ◌⊎◌, List, [], ◌∷◌, Some, Option, sym, refl, ap, ◌∙◌, subst, ⊎_elim, arith}
use Rattle.std.proofs.lemmas.Bool.{cases_eq, cases_lt}
use Rattle.std.proofs.lemmas.Bool.Decides.{nat_tests}
use Rattle.words.specs.declared.version.Version.{Version}
use Rattle.tables.specs.Versions.{falls}
use Rattle.tables.specs.Table.{put}
use Rattle.rules.specs.declared.entry.ReadEntry.{ReadEntry}
use Rattle.rules.specs.declared.entry.WriteEntry.{WriteEntry}
use Rattle.rules.specs.Model.{Stage, idle, open', sealed, looking, Worker, Model}
use Rattle.rules.specs.Stamps.{last_clock, timestamp, last_stamp, keep_line}
use Rattle.law.specs.Plain.{Op}
use Rattle.law.specs.History.{Doing, nothing, in_pass, in_look, Glance, History}
use Rattle.law.proofs.Under.{under}
use Rattle.law.proofs.State.{Progress, State, committed, Inv}
use Rattle.tables.proofs.Lengths.{put_here, put_other}
use Rattle.law.proofs.Cuts.{rises}
use Rattle.law.proofs.Serial.{Local, Recorded}
use Rattle.law.proofs.Lines.{line_lower, line_look, line_greatest}

-- a pass that runs: its sets and its steps done
abbrev pub running : List ReadEntry → List WriteEntry → ℕ → Progress
running rs ws k = record { reads = rs; writes = ws; k = k; ended = false }

abbrev pub state : Model → (ℕ → Option Progress) → State
state m pass = record { cells = m.cells; pass = pass; at = λ c u. under u (m.lists c) }

-- the pass that a worker runs in a stage
abbrev pub View : Stage → Progress → Type 0
View idle P = ⊥
View (open' rs ws) P = P ≡ running rs ws 0
View (sealed rs ws k) P = P ≡ running rs ws k
View (looking f) P = ⊥

-- a pass of the history beside the pass of the state under its stamp t
pub record InPass (t : ℕ) (pass : ℕ → Option Progress) (rs : List ReadEntry) (ws : List WriteEntry) (k : ℕ) (shut : Bool) (d : Doing) : Type 0 where
  pub ops : List Op
  pub is : d ≡ in_pass (record { stamp = t; ops = ops }) shut
  pub runs : pass t ≡ Some (running rs ws k)
  pub local : Local ops rs ws

-- what a worker is doing, in a stage
abbrev pub Does : Stage → ℕ → (ℕ → Option Progress) → Doing → Type 0
Does idle t pass d = d ≡ nothing
Does (open' rs ws) t pass d = InPass t pass rs ws 0 false d
Does (sealed rs ws k) t pass d = InPass t pass rs ws k true d
Does (looking f) t pass d = d ≡ in_look f

-- a timestamp that a worker has got
pub record Known (m : Model) (t : ℕ) : Type 0 where
  pub worker : ℕ
  pub within : worker < m.workers
  pub clock : ℕ
  pub is : t ≡ clock * 256 + worker
  pub past : clock ≤ (m.worker worker).last

-- the worker of a running pass
pub record Owner (m : Model) (t : ℕ) (P : Progress) : Type 0 where
  pub worker : ℕ
  pub within : worker < m.workers
  pub is : t ≡ last_stamp m worker
  pub view : View (m.worker worker).stage P

-- a read of a look answered the newest committed write below its floor, which no worker is below
pub record Glanced (m : Model) (s : State) (g : Glance) : Type 0 where
  pub from : ℕ
  pub is : committed s g.cell from ≡ Some g.value
  pub below : from < g.floor
  pub newest : (w v : ℕ) → committed s g.cell w ≡ Some v → w < g.floor → w ≤ from
  pub under : (w : ℕ) → w < m.workers → g.floor ≤ last_stamp m w

abbrev pub AllGlanced : Model → State → List Glance → Type 0
AllGlanced m s [] = Unit {0}
AllGlanced m s (g ∷ gs) = Glanced m s g × AllGlanced m s gs

pub record Good (m : Model) (h : History) : Type 0 where
  pub some : 0 < m.workers
  pub few : m.workers ≤ 16
  pub pass : ℕ → Option Progress
  pub inv : Inv (state m pass) (keep_line m)
  pub falling : (c : ℕ) → falls (m.lists c) ≡ true
  pub inside : (c u : ℕ) (x : Version) → under u (m.lists c) ≡ Some x → c < m.cells
  pub seen : (c u : ℕ) (x : Version) → under u (m.lists c) ≡ Some x → (u ≡ 0) ⊎ Known m u
  pub known : (u : ℕ) (P : Progress) → pass u ≡ Some P → Known m u
  pub whose : (u : ℕ) (P : Progress) → pass u ≡ Some P → P.ended ≡ false → Owner m u P
  pub does : (w : ℕ) → Does (m.worker w).stage (last_stamp m w) pass (h.doing w)
  pub outside : (w : ℕ) → m.workers ≤ w → (m.worker w).stage ≡ idle
  pub last : (w : ℕ) → h.last w ≡ last_stamp m w
  pub clocks : (w : ℕ) → (1 ≤ (m.worker w).last) × ((m.worker w).last ≤ last_clock)
  pub looks : (w f : ℕ) → (m.worker w).stage ≡ looking f → (0 < f) × ((v : ℕ) → v < m.workers → f ≤ last_stamp m v)
  pub recorded : Recorded (state m pass) h.passes
  pub glances : AllGlanced m (state m pass) h.glances

-- no two workers have one timestamp
pub apart_stamps : (a b v w : ℕ) → v < 256 → w < 256 → a * 256 + v ≡ b * 256 + w → (a ≡ b) × (v ≡ w)
apart_stamps a b v w p q e = (omega arith, omega arith)

-- g is f, but for y at w
pub record Becomes {A : Type 0} (f g : ℕ → A) (w : ℕ) (y : A) : Type 0 where
  pub here : g w ≡ y
  pub apart : (v : ℕ) → (v ≡ w → ⊥) → g v ≡ f v

pub puts : {A : Type 0} (f : ℕ → A) (w : ℕ) (y : A) → Becomes f (put f w y) w y
puts f w y = record { here = put_here f w y; apart = λ v n. put_other f w y v n }

pub leaves : {A : Type 0} (f : ℕ → A) (w : ℕ) (y : A) → f w ≡ y → Becomes f f w y
leaves f w y e = record { here = e; apart = λ v n. refl }

-- the worker w becomes x and is doing d; beside it only lists, passes and the reads of looks may change
pub record Change (m : Model) (h : History) (good : Good m h) (m' : Model) (h' : History) (w : ℕ) (x : Worker) (d : Doing) (pass : ℕ → Option Progress) : Type 0 where
  pub workers : m'.workers ≡ m.workers
  pub within : w < m.workers
  pub worker : Becomes m.worker m'.worker w x
  pub doing : Becomes h.doing h'.doing w d
  pub last : Becomes h.last h'.last w (timestamp x.last w)
  pub later : (m.worker w).last ≤ x.last
  pub spent : x.last ≤ last_clock
  pub does : Does x.stage (timestamp x.last w) pass d
  -- a pass that runs before keeps its stamp, and one that runs afterwards is this worker's
  pub same : (P : Progress) → View (m.worker w).stage P → (m.worker w).last ≡ x.last
  pub own : (P : Progress) → pass (timestamp x.last w) ≡ Some P → P.ended ≡ false → View x.stage P
  pub elsewhere : (u : ℕ) → (u ≡ timestamp x.last w → ⊥) → pass u ≡ good.pass u
  -- a new look is not below the keep line nor above a worker
  pub looks : (f : ℕ) → x.stage ≡ looking f → ((m.worker w).stage ≡ looking f) ⊎ ((keep_line m ≤ f) × (0 < f) × ((v : ℕ) → v < m.workers → f ≤ last_stamp m v))
  pub inv : Inv (state m' pass) (keep_line m)
  pub falling : (c : ℕ) → falls (m'.lists c) ≡ true
  pub inside : (c u : ℕ) (y : Version) → under u (m'.lists c) ≡ Some y → c < m'.cells
  pub versions : (c u : ℕ) (y : Version) → under u (m'.lists c) ≡ Some y → ((z : Version) × (under u (m.lists c) ≡ Some z)) ⊎ (u ≡ timestamp x.last w)
  pub recorded : Recorded (state m' pass) h'.passes
  pub glances : AllGlanced m (state m' pass) h'.glances

module _ (m : Model) (h : History) (good : Good m h) (m' : Model) (h' : History) (w : ℕ) (x : Worker) (d : Doing) (pass : ℕ → Option Progress) (change : Change m h good m' h' w x d pass) where
  stamp_now : last_stamp m' w ≡ timestamp x.last w
  stamp_now = ap (λ (y : Worker). timestamp y.last w) change.worker.here

  -- another worker's timestamp
  apart : (v a : ℕ) → v < m.workers → (v ≡ w → ⊥) → timestamp a v ≡ timestamp x.last w → ⊥
  apart v a l n e = grind arith

  outside_still : (v : ℕ) → m'.workers ≤ v → (m'.worker v).stage ≡ idle
  outside_still v le = grind arith

  look_over : (v f : ℕ) → (m'.worker v).stage ≡ looking f → (keep_line m ≤ f) × (0 < f) × ((v : ℕ) → v < m.workers → f ≤ last_stamp m v)
  look_over v f e = grind (arith, nat_tests, line_look)

  whose_still : (u : ℕ) (P : Progress) → pass u ≡ Some P → P.ended ≡ false → Owner m' u P
  whose_still u P is runs = ⊎_elim
      (λ (e : u ≡ timestamp x.last w). record {
        worker = w;
        within = grind arith;
        is = e ∙ sym stamp_now;
        view = grind arith;
      })
      (λ (n : u ≡ timestamp x.last w → ⊥). let o = good.whose u P (sym (change.elsewhere u n) ∙ is) runs in
      let other : o.worker ≡ w → ⊥ = λ (q : o.worker ≡ w). n (o.is ∙ subst (λ v. last_stamp m v ≡ timestamp x.last w) (sym q) (ap (λ a. timestamp a w) (change.same P (subst (λ v. View (m.worker v).stage P) q o.view)))) in
      record {
        worker = o.worker;
        within = grind arith;
        is = grind arith;
        view = grind arith;
      })
      (cases_eq u (timestamp x.last w))

  -- the keep line has risen, if it has moved
  line_on : keep_line m ≤ keep_line m'
  line_on = grind (arith, nat_tests, line_greatest, line_lower, look_over)

  inv_on : Inv (state m' pass) (keep_line m')
  inv_on = rises (state m' pass) (keep_line m) (keep_line m') change.inv line_on
      (λ u P r. let o = whose_still u P r.0 r.1 in let l = line_lower m' (let a = change.workers in let b = good.some in omega arith) o.worker o.within in let e = o.is in omega arith)

  does_apart : (g : Stage) (t : ℕ) → (t ≡ timestamp x.last w → ⊥) ⊎ (g ≡ idle) → (e : Doing) → Does g t good.pass e → Does g t pass e
  does_apart g t n e o = grind arith

  does_still : (v : ℕ) → Does (m'.worker v).stage (last_stamp m' v) pass (h'.doing v)
  does_still v = grind (arith, nat_tests, apart, does_apart, cases_lt v m.workers, cases_eq v w)

  last_still : (v : ℕ) → h'.last v ≡ last_stamp m' v
  last_still v = grind arith

  clocks_still : (v : ℕ) → (1 ≤ (m'.worker v).last) × ((m'.worker v).last ≤ last_clock)
  clocks_still v = grind arith

  glances_on : (gs : List Glance) → AllGlanced m (state m' pass) gs → AllGlanced m' (state m' pass) gs
  glances_on [] a = tt
  glances_on (g ∷ gs) (a, rest) = (grind arith, glances_on gs rest)

  pub keeps : Good m' h'
  keeps = record {
    some = grind arith;
    few = grind arith;
    pass = pass;
    inv = inv_on;
    falling = change.falling;
    inside = change.inside;
    seen = grind arith;
    known = grind arith;
    whose = whose_still;
    does = does_still;
    outside = outside_still;
    last = last_still;
    clocks = clocks_still;
    looks = grind arith;
    recorded = change.recorded;
    glances = glances_on h'.glances change.glances;
  }
