-- A table of n cells with a fixed number of places each: what is known of it beyond every table.
use Rattle.std.specs.Prelude.{◌≡◌, ℕ, ◌+◌, ◌-◌, ◌<◌, List, length}
use Rattle.words.specs.declared.version.Version.{Version}
use Rattle.tables.specs.Table.{Table}

-- n cells of 8 places: the places that a cell's versions leave are free, and no cell shares them
abbrev pub eight_places : ℕ → (ℕ → List Version) → Table
eight_places n lists = record { cells = n; versions = lists; free = λ c. 8 - length (lists c) }

-- of each of n cells, the versions and the free places together are 8
pub record EightEach (n : ℕ) (t : Table) : Type 0 where
  pub cells : t.cells ≡ n
  pub full : (c : ℕ) → c < n → length (t.versions c) + t.free c ≡ 8
