use Rattle.std.proofs.Common.{◌≡◌, ℕ, ◌<◌, [], ◌∷◌, length, get_or}
use Rattle.words.specs.Version.{first_version}
use Rattle.rows.specs.declared.row.Row.{Row}
use Rattle.rows.specs.Row.{row_list}
use Rattle.rows.proofs.table.RowTableVersionTable.clear.Given as goal

abbrev pub invariant-loop-row : goal.invariant-loop-row
invariant-loop-row l =
    (length l.row-items ≡ 128) × ((k : ℕ) (d : Row) → k < l.row-index → row_list (get_or l.row-items k d) ≡ first_version ∷ [])
