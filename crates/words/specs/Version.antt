-- Versions of a cell.
use Rattle.std.specs.Prelude.{ℕ, List, ◌++◌, codes, decimal}
use Rattle.words.specs.Status.{name}
use Rattle.words.specs.declared.status.Status.TheVariants.{Pending, Committed}
use Rattle.words.specs.declared.version.Version.{Version}

-- the version that every cell has after clear
abbrev pub first_version : Version
first_version = record { write = 0; read = 0; status = Committed; value = 0 }

-- the version that insert puts in: pending, both stamps equal
abbrev pub new_version : ℕ → ℕ → Version
new_version s x = record { write = s; read = s; status = Pending; value = x }

-- what is read past a list's end; it is part of no answer
abbrev pub absent : Version
absent = record { write = 0; read = 0; status = Pending; value = 0 }

-- a version as it is shown: [1280: 2850 committed, read 2305]
abbrev pub shown : Version → List ℕ
shown v = codes "[" ++ decimal v.write ++ codes ": " ++ decimal v.value ++ codes " " ++ name v.status ++ codes ", read " ++ decimal v.read ++ codes "]"
