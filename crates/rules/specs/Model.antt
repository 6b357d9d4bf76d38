-- The model of a map: what the rules speak of.
use Rattle.std.specs.Prelude.{ℕ, min, max, List}
use Rattle.words.specs.declared.version.Version.{Version}
use Rattle.tables.specs.Table.{Table, cleared, put}
use Rattle.rules.specs.declared.entry.ReadEntry.{ReadEntry}
use Rattle.rules.specs.declared.entry.WriteEntry.{WriteEntry}

-- what a worker is doing: nothing; an open pass with its read set and its write set; a sealed pass
-- with its sets and how many steps are done; a look with its floor
pub data Stage : Type 0 where
  idle : Stage
  open' : List ReadEntry → List WriteEntry → Stage
  sealed : List ReadEntry → List WriteEntry → ℕ → Stage
  looking : ℕ → Stage

-- clocks count units of 0.1 microsecond
pub record Worker : Type 0 where
  pub clock : ℕ
  pub boost : ℕ
  pub last : ℕ
  pub stage : Stage

-- the workers, the cells' lists of versions, and how many commits were accepted
pub record Model : Type 0 where
  pub workers : ℕ
  pub worker : ℕ → Worker
  pub cells : ℕ
  pub lists : ℕ → List Version
  pub commits : ℕ

-- a worker before its first call
abbrev pub new_worker : Worker
new_worker = record { clock = 0; boost = 0; last = 1; stage = idle }

-- 1 to 16 workers: fewer asked for counts as 1, more as 16
abbrev pub workers_of : ℕ → ℕ
workers_of n = max 1 (min n 16)

-- a map of so many cells, just made
abbrev pub new_map : ℕ → ℕ → Model
new_map workers cells =
    record {
      workers = workers_of workers;
      worker = λ w. new_worker;
      cells = cells;
      lists = cleared cells;
      commits = 0;
    }

-- the table that a model stands on, with its free places
abbrev pub table_of : (ℕ → ℕ) → Model → Table
table_of free m = record { cells = m.cells; versions = m.lists; free = free }

-- changes of one part
abbrev pub with_worker : Model → ℕ → Worker → Model
with_worker m w x =
    record { workers = m.workers; worker = put m.worker w x; cells = m.cells; lists = m.lists; commits = m.commits }

abbrev pub with_list : Model → ℕ → List Version → Model
with_list m c vs =
    record { workers = m.workers; worker = m.worker; cells = m.cells; lists = put m.lists c vs; commits = m.commits }

abbrev pub with_lists : Model → (ℕ → List Version) → Model
with_lists m ls =
    record { workers = m.workers; worker = m.worker; cells = m.cells; lists = ls; commits = m.commits }

abbrev pub with_commits : Model → ℕ → Model
with_commits m n =
    record { workers = m.workers; worker = m.worker; cells = m.cells; lists = m.lists; commits = n }

abbrev pub at_stage : Worker → Stage → Worker
at_stage x g = record { clock = x.clock; boost = x.boost; last = x.last; stage = g }
