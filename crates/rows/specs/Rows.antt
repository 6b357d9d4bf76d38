-- What the rows of a row table hold, cell by cell.
use Rattle.std.specs.Prelude.{◌≡◌, ℕ, zero, suc, true, List, [], ◌∷◌, map, slice_index_or, refl}
use Rattle.std.proofs.Common.{lit≤}
use Rattle.words.specs.declared.version.Version.{Version}
use Rattle.tables.specs.Versions.{sinks}
use Rattle.tables.specs.Table.{Sound}
use Rattle.rows.specs.declared.row.Row.{Row}
use Rattle.rows.specs.Row.{row_list}
use Rattle.rows.specs.Places.{eight_places}

-- the list of a cell; a cell that is not there has none
abbrev pub row_lists : List Row → ℕ → List Version
row_lists rows c = slice_index_or (map row_list rows) c []

-- each cell's list sinks, since each row's does
lists_sink : (rows : List Row) (c : ℕ) → sinks (row_lists rows c) ≡ true
lists_sink [] c = refl
lists_sink (r ∷ rs) zero = r.sinking
lists_sink (r ∷ rs) (suc c) = lists_sink rs c

-- what is known of every row table
pub rows_sound : (rows : List Row) → Sound (eight_places 128 (row_lists rows))
rows_sound rows = record { few = lit≤ tt; sinking = lists_sink rows }
