-- Read sets and write sets: at most 16 entries each, in order of joining.
use Rattle.std.specs.Prelude.{ℕ, ◌-◌, Bool, cond, List, [], ◌∷◌, length, Some, None, Option, ◌==◌, nat_lt}
use Rattle.rules.specs.declared.entry.ReadEntry.{ReadEntry}
use Rattle.rules.specs.declared.entry.WriteEntry.{WriteEntry}

-- the first entry for the cell c, of any kind of entry that names a cell
abbrev pub find : {E : Type 0} → (E → ℕ) → ℕ → List E → Option E
find cell c [] = None
find cell c (e ∷ es) = cond (cell e == c) (Some e) (find cell c es)

abbrev pub find_read : ℕ → List ReadEntry → Option ReadEntry
find_read c rs = find (λ e. e.cell) c rs

abbrev pub find_write : ℕ → List WriteEntry → Option WriteEntry
find_write c ws = find (λ e. e.cell) c ws

-- whether a set has no room for another entry
abbrev pub full : {E : Type 0} → List E → Bool
full es = nat_lt 15 (length es)

-- an entry in the place of the one for its cell
abbrev pub replaced : WriteEntry → List WriteEntry → List WriteEntry
replaced e [] = []
replaced e (f ∷ fs) = cond (f.cell == e.cell) (e ∷ fs) (f ∷ replaced e fs)

-- the entry at a place of a set
abbrev pub nth : {E : Type 0} → List E → ℕ → Option E
nth [] n = None
nth (e ∷ es) n = cond (n == 0) (Some e) (nth es (n - 1))
