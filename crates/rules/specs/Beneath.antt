-- The calls that a call of a map makes on its table.
use Rattle.std.specs.Prelude.{◌≡◌, ℕ, min, List, [], ◌∷◌, length, take}
use Rattle.words.specs.Outcome.{Outcome, accepted, refused}
use Rattle.words.specs.declared.status.Ending.{Ending}
use Rattle.words.specs.declared.status.Ending.TheVariants.{Commit as Commits', Abort as Aborts'}
use Rattle.words.specs.declared.version.Version.{Version}
use Rattle.tables.specs.Table.{Table}
use Rattle.tables.specs.declared.call.TableCall.{TableCall}
use Rattle.tables.specs.declared.call.TableCall.TheVariants.{Insert, Raise, Mark, Cut as CutAt}
use Rattle.tables.specs.Calls.{Step as TableStep}
use Rattle.rules.specs.declared.entry.ReadEntry.{ReadEntry}
use Rattle.rules.specs.declared.entry.WriteEntry.{WriteEntry}
use Rattle.rules.specs.declared.call.Call.{Call}
use Rattle.rules.specs.declared.call.Call.TheVariants.{Begin, Pulse, Sync, Read, Write, Seal, Install, Stamp, Check, Commit, Abort, Look, Close, Show, Commits, Collect}
use Rattle.rules.specs.Model.{Stage, idle, open', sealed, looking, Worker, Model, table_of}
use Rattle.rules.specs.Stamps.{keep_line}
use Rattle.rules.specs.Search.{newest_below, search}
use Rattle.rules.specs.Rules.{Step, to_install, to_stamp, to_check_read, to_check_write, finished, next_step, if_accepted}
use Rattle.rules.specs.Turns.{pass_stamp}

-- one mark for each write
abbrev pub marks : Ending → ℕ → List WriteEntry → List TableCall
marks how s [] = []
marks how s (e ∷ es) = Mark e.cell s how ∷ marks how s es

-- a step of the pass stamped s: one insert, one raise, or none
abbrev pub for_step : ℕ → Step → List TableCall
for_step s (to_install e) = Insert e.cell s e.value ∷ []
for_step s (to_stamp e) = Raise e.cell e.stamp s ∷ []
for_step s (to_check_read e) = []
for_step s (to_check_write e) = []
for_step s finished = []

-- what a sealed pass calls, by its sets and its steps done; other workers call nothing
abbrev pub calls_if_sealed : Stage → (List ReadEntry → List WriteEntry → ℕ → List TableCall) → List TableCall
calls_if_sealed idle f = []
calls_if_sealed (open' rs ws) f = []
calls_if_sealed (sealed rs ws k) f = f rs ws k
calls_if_sealed (looking l) f = []

-- the calls of the worker x, numbered w: of its next step, of its commit, of its abort
abbrev pub step_calls : ℕ → Worker → List TableCall
step_calls w x = calls_if_sealed x.stage (λ rs ws k. for_step (pass_stamp x w) (next_step rs ws k))

abbrev pub commit_calls : ℕ → Worker → List TableCall
commit_calls w x = calls_if_sealed x.stage (λ rs ws k. marks Commits' (pass_stamp x w) ws)

abbrev pub abort_calls : ℕ → Worker → List TableCall
abort_calls w x = calls_if_sealed x.stage (λ rs ws k. marks Aborts' (pass_stamp x w) (take (min k (length ws)) ws))

-- a cut at the version that was found
abbrev pub cut_at : ℕ → Outcome Version → List TableCall
cut_at c (accepted v) = CutAt c v.write ∷ []
cut_at c (refused n d) = []

-- the table calls of an accepted call
abbrev pub beneath : (ℕ → ℕ) → Model → Call → List TableCall
beneath free m (Begin w units) = []
beneath free m (Pulse w units) = []
beneath free m (Sync w o) = []
beneath free m (Read w c) = []
beneath free m (Write w c x) = []
beneath free m (Seal w) = []
beneath free m (Install w) = step_calls w (m.worker w)
beneath free m (Stamp w) = step_calls w (m.worker w)
beneath free m (Check w) = []
beneath free m (Commit w) = commit_calls w (m.worker w)
beneath free m (Abort w) = abort_calls w (m.worker w)
beneath free m (Look w) = []
beneath free m (Close w) = []
beneath free m (Show c) = []
beneath free m Commits = []
beneath free m (Collect c) = cut_at c (search (newest_below (keep_line m)) (table_of free m) c)

-- calls one after another, each as the table's own contract says
abbrev pub Steps : Table → List TableCall → Table → Type 0
Steps t [] u = u ≡ t
Steps t (call ∷ calls) u = (s : Table) × TableStep t call s × Steps s calls u

-- the calls where the answer is accepted, and none where it is refused
abbrev pub StepsUpon : Table → Outcome ℕ → List TableCall → Table → Type 0
StepsUpon t answer calls u = Steps t (if_accepted answer calls []) u

-- what a call of a map makes of its table
abbrev pub Beneath : Table → Model → Call → Outcome ℕ → Table → Type 0
Beneath t m call answer u = StepsUpon t answer (beneath t.free m call) u
