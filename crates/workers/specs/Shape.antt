-- A worker in memory as the worker of the rules.
use Rattle.std.specs.Prelude.{ℕ, cond, ◌==◌, nat_lt, ◌<◌, ◌≤◌, ◌^◌, List, [], length, Some, None, vec_items, vec_len, vec_capacity, Option}
use Rattle.rules.specs.declared.entry.ReadEntry.{ReadEntry}
use Rattle.rules.specs.declared.entry.WriteEntry.{WriteEntry}
use Rattle.rules.specs.Sets.{find_read, find_write}
use Rattle.rules.specs.Model.{Stage, idle, open', sealed, looking, Worker}
use Rattle.words.specs.Outcome.{Outcome, accepted, refused, refuse}
use Rattle.words.specs.declared.refusal.Refusal.TheVariants.{Changed, ReadLater}
use Rattle.words.specs.declared.version.Version.{Version}
use Rattle.tables.specs.Table.{Table}
use Rattle.tables.specs.declared.call.TableCall.{TableCall}
use Rattle.rules.specs.Beneath.{step_calls, commit_calls, abort_calls}
use Rattle.rules.specs.Turns.{Came, Lists, write_by, seal_by, install_by, stamp_by, check_by, commit_by, abort_by, look_by, close_by}
use Rattle.workers.specs.declared.stage.Stage.{Stage as Now}
use Rattle.workers.specs.declared.stage.Stage.TheVariants.{Idle, Open, Sealed, Looking}
use Rattle.workers.specs.declared.worker.Worker.TheInside.{Inside}
use Rattle.workers.specs.declared.clock.Tick.{Tick}
use Rattle.workers.specs.declared.clock.Tick.TheVariants.{Begin, Pulse}
use Rattle.workers.specs.declared.edit.Edit.{Edit}
use Rattle.workers.specs.declared.edit.Edit.TheVariants.{Write, Seal}
use Rattle.words.specs.declared.status.Ending.{Ending}
use Rattle.words.specs.declared.status.Ending.TheVariants.{Commit, Abort}
use Rattle.workers.specs.declared.steps.Step.{Step}
use Rattle.workers.specs.declared.steps.Step.TheVariants.{Install, Stamp, Check}
use Rattle.workers.specs.declared.glance.Glance.{Glance}
use Rattle.workers.specs.declared.glance.Glance.TheVariants.{Look, Close}

-- the sets are of a pass alone
abbrev pub stage_of : Now → List ReadEntry → List WriteEntry → Stage
stage_of Idle rs ws = idle
stage_of Open rs ws = open' rs ws
stage_of (Sealed k) rs ws = sealed rs ws k
stage_of (Looking f) rs ws = looking f

abbrev pub shape : Inside → Worker
shape x =
    record {
      clock = x.clock;
      boost = x.boost;
      last = x.last;
      stage = stage_of x.stage (vec_items x.reads) (vec_items x.writes);
    }

-- what is true of every worker: no clock passes 2^50 - 1, the boost is at most 10, and both sets have room
-- for 16 entries and hold no more
pub record InBounds (x : Inside) : Type 0 where
  pub clock : x.clock < 2 ^ 50
  pub boost : x.boost ≤ 10
  pub last : x.last < 2 ^ 50
  pub reads : vec_len x.reads ≤ 16
  pub writes : vec_len x.writes ≤ 16
  pub room_to_read : 16 ≤ vec_capacity x.reads
  pub room_to_write : 16 ≤ vec_capacity x.writes

-- the sets of a pass hold at most 16 entries each
abbrev pub Few : Stage → Type 0
Few idle = Unit {0}
Few (open' rs ws) = (length rs ≤ 16) × (length ws ≤ 16)
Few (sealed rs ws k) = (length rs ≤ 16) × (length ws ≤ 16)
Few (looking f) = Unit {0}

-- what callers know of every worker: no clock passes 2^50 - 1, the boost is at most 10, and the sets are few
pub record Bounded (x : Worker) : Type 0 where
  pub clock : x.clock < 2 ^ 50
  pub boost : x.boost ≤ 10
  pub last : x.last < 2 ^ 50
  pub sets : Few x.stage

-- the stage that begin and pulse lead to
abbrev pub stage_after : Tick → Stage
stage_after Begin = open' [] []
stage_after Pulse = idle

abbrev pub edited : Edit → Worker → Came Worker
edited (Write e) x = write_by e.cell e.value x
edited Seal x = seal_by x

abbrev pub glanced : Glance → Worker → Came Worker
glanced (Look f) x = look_by f x
glanced Close x = close_by x

-- what a check comes to, by what its search found
abbrev pub read_checked : ReadEntry → Outcome Version → Outcome (Unit {0})
read_checked e (accepted v) = cond (v.write == e.stamp) (accepted tt) (refuse Changed)
read_checked e (refused n d) = refused n d

abbrev pub write_checked : ℕ → Outcome Version → Outcome (Unit {0})
write_checked s (accepted v) = cond (nat_lt s v.read) (refuse ReadLater) (accepted tt)
write_checked s (refused n d) = refused n d

-- a step, with the lists; a check leaves them
abbrev pub step_by : Step → Table → ℕ → Worker → Came (Worker × Lists)
step_by Install t w x = install_by t w x
step_by Stamp t w x = stamp_by t w x
step_by Check t w x = ((check_by t w x).0, ((check_by t w x).1, t.versions))

-- the table calls of a step
abbrev pub calls_for : Step → ℕ → Worker → List TableCall
calls_for Install w x = step_calls w x
calls_for Stamp w x = step_calls w x
calls_for Check w x = []

-- commit and abort, and their table calls
abbrev pub end_by : Ending → Table → ℕ → Worker → Came (Worker × Lists)
end_by Commit t w x = commit_by t w x
end_by Abort t w x = abort_by t w x

abbrev pub end_calls : Ending → ℕ → Worker → List TableCall
end_calls Commit w x = commit_calls w x
end_calls Abort w x = abort_calls w x

-- the value of the write entry, else of the read entry
abbrev pub known_in : Option WriteEntry → Option ReadEntry → Option ℕ
known_in (Some e) o = Some e.value
known_in None (Some e) = Some e.value
known_in None None = None

-- the floor of a look
abbrev pub looking_from : Stage → Option ℕ
looking_from idle = None
looking_from (open' rs ws) = None
looking_from (sealed rs ws k) = None
looking_from (looking f) = Some f

-- the value of a cell in the write set, else in the read set
abbrev pub known : ℕ → List ReadEntry → List WriteEntry → Option ℕ
known c rs ws = known_in (find_write c ws) (find_read c rs)
