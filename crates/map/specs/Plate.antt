-- The model of a map in memory: its table's meaning and its own fields, nothing else.
use Rattle.std.specs.Prelude.{ℕ, List, vec_items, slice_index_or}
use Rattle.tables.specs.Table.{Table}
use Rattle.rules.specs.Model.{Worker, Model, new_worker}
use Rattle.rules.specs.Stamps.{timestamp}
use Rattle.map.specs.declared.crew.Crew.{Crew}
use Rattle.map.specs.declared.plate.PlateMap.{PlateMap}

-- the worker in each place; past the last place a worker before its first call
abbrev pub seated : List Worker → ℕ → Worker
seated xs w = slice_index_or xs w new_worker

abbrev pub last_of : List Worker → ℕ → ℕ
last_of xs w = timestamp (seated xs w).last w

abbrev pub plate : Table → Crew → Model
plate t i =
    record {
      workers = i.count;
      worker = seated (vec_items i.workers);
      cells = t.cells;
      lists = t.versions;
      commits = i.commits;
    }

-- the model of a map whose table means what meaning says
abbrev pub model_of : {T : Type 0} → (T → Table) → PlateMap T → Model
model_of meaning m = plate (meaning m.table.now) m.crew
