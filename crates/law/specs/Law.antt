-- The law of runs.
use Rattle.std.specs.Prelude.{◌≡◌, ℕ, ◌<◌, ◌≤◌, true, List, [], ◌∷◌, ◌++◌, ◌≢◌}
use Rattle.words.specs.Outcome.{Outcome, accepted, refused}
use Rattle.tables.specs.Versions.{holds_pending}
use Rattle.tables.specs.Table.{Table}
use Rattle.rules.specs.declared.call.Call.{Call}
use Rattle.rules.specs.declared.call.Call.TheVariants.{Begin, Pulse, Sync, Read, Write, Seal, Install, Stamp, Check, Commit, Abort, Look, Close, Show, Commits, Collect}
use Rattle.rules.specs.Model.{Model, workers_of}
use Rattle.rules.specs.Rules.{outcome}
use Rattle.law.specs.Plain.{Pass, after, Replays, by_stamp, below}
use Rattle.law.specs.History.{Event, in_pass, in_look, Glance, History, history}
use Rattle.law.specs.Run.{Run}

-- what the next call would be answered
abbrev pub answered : Table → Model → Call → Outcome ℕ
answered t m call = (outcome t.free m call).0

-- a call of the worker w
abbrev pub By : ℕ → Call → Type 0
By w (Begin v units) = v ≡ w
By w (Pulse v units) = v ≡ w
By w (Sync v o) = v ≡ w
By w (Read v c) = v ≡ w
By w (Write v c x) = v ≡ w
By w (Seal v) = v ≡ w
By w (Install v) = v ≡ w
By w (Stamp v) = v ≡ w
By w (Check v) = v ≡ w
By w (Commit v) = v ≡ w
By w (Abort v) = v ≡ w
By w (Look v) = v ≡ w
By w (Close v) = v ≡ w
By w (Show c) = ⊥
By w Commits = ⊥
By w (Collect c) = ⊥

-- f is the least of what the workers below n have
pub record Least (last : ℕ → ℕ) (n f : ℕ) : Type 0 where
  pub lowest : (w : ℕ) → w < n → f ≤ last w
  pub worker : ℕ
  pub within : worker < n
  pub is : f ≡ last worker

-- every read of a look was answered what the array holds after exactly the passes stamped below its floor
abbrev pub Snapshots : List Pass → List Glance → Type 0
Snapshots ps [] = Unit {0}
Snapshots ps (g ∷ gs) = (g.value ≡ after (below g.floor ps) g.cell) × Snapshots ps gs

-- the worker w has sealed a pass, and no sealed pass is stamped earlier
pub record Earliest (h : History) (w : ℕ) : Type 0 where
  pub pass : Pass
  pub sealed : h.doing w ≡ in_pass pass true
  pub first : (v : ℕ) (p : Pass) → h.doing v ≡ in_pass p true → pass.stamp ≤ p.stamp

-- each event was answered by the rules, in the run of the events before it
abbrev pub Faithful : ℕ → ℕ → List Event → Type 0
Faithful workers cells es = (late early : List Event) (e : Event) → es ≡ late ++ (e ∷ early)
    → (t : Table) × ((m : Model) × Run workers cells early t m × (e.answer ≡ answered t m e.call))

-- what holds of the events es of a run, and of the table and the model that they lead to
pub record Lawful (workers cells : ℕ) (es : List Event) (t : Table) (m : Model) : Type 0 where
  -- exactly the calls that the rules accept were accepted
  pub faithful : Faithful workers cells es
  -- the committed passes, run alone by rising timestamp, answer their reads as the map did
  pub serial : Replays (by_stamp (history es).passes)
  -- and show answers for every cell what the array then holds
  pub shown : (c : ℕ) → c < cells → answered t m (Show c) ≡ accepted (after (by_stamp (history es).passes) c)
  -- looks read one snapshot, and wait for nothing
  pub snapshots : Snapshots (by_stamp (history es).passes) (history es).glances
  pub looks_never_wait : (w f d : ℕ) (call : Call) → (history es).doing w ≡ in_look f → By w call → answered t m call ≢ refused 6 d
  -- a look's floor is the least of the timestamps that the workers last got
  pub floors : (w f : ℕ) → answered t m (Look w) ≡ accepted f → Least (history es).last (workers_of workers) f
  -- the earliest sealed pass waits for nothing
  pub earliest_never_waits : (w d : ℕ) (call : Call) → Earliest (history es) w → By w call → answered t m call ≢ refused 6 d
  -- no call is answered STAMP TAKEN or NO VERSION
  pub never_taken : (d : ℕ) (call : Call) → answered t m call ≢ refused 7 d
  pub never_missing : (d : ℕ) (call : Call) → answered t m call ≢ refused 9 d
  -- the stamp of a pending version is that of a pass then sealed
  pub pending_sealed : (c s : ℕ) → holds_pending s (t.versions c) ≡ true → (w : ℕ) × ((p : Pass) × ((history es).doing w ≡ in_pass p true) × (p.stamp ≡ s))

-- the law, for every number of workers and cells, every table and every list of calls
abbrev pub LawOfRuns : Type 0
LawOfRuns = (workers cells : ℕ) (es : List Event) (t : Table) (m : Model) → Run workers cells es t m → Lawful workers cells es t m
