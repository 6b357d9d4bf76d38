-- What one row holds.
use Rattle.std.specs.Prelude.{List}
use Rattle.words.specs.declared.version.Version.{Version}
use Rattle.rows.specs.declared.row.Row.{Row}

-- the list of the row's cell
abbrev pub row_list : Row → List Version
row_list r = r.versions.items
