-- Searches along a cell's list.
use Rattle.std.specs.Prelude.{ℕ, ◌^◌, cond, List, [], ◌∷◌, take, nat_lt}
use Rattle.words.specs.Outcome.{Outcome, accepted, refuse}
use Rattle.words.specs.declared.refusal.Refusal.TheVariants.{Wait, NoVersion}
use Rattle.words.specs.declared.status.Status.{Status}
use Rattle.words.specs.declared.status.Status.TheVariants.{Pending, Committed, Aborted}
use Rattle.words.specs.declared.version.Version.{Version}
use Rattle.tables.specs.Table.{Table, in_cell}

-- the versions that can be asked for: a position is a number of 64 bits
abbrev pub reach : List Version → List Version
reach vs = take (2 ^ 64) vs

-- one of three, by a status
abbrev pub by_status : {A : Type 0} → Status → A → A → A → A
by_status Pending p c a = p
by_status Committed p c a = c
by_status Aborted p c a = a

-- the visible version below s: the newest that is not aborted and is stamped below s; WAIT if it is pending
abbrev pub visible : ℕ → List Version → Outcome Version
visible s [] = refuse NoVersion
visible s (v ∷ vs) =
    cond (nat_lt v.write s) (by_status v.status (refuse (Wait v.write)) (accepted v) (visible s vs)) (visible s vs)

-- the newest committed version
abbrev pub newest : List Version → Outcome Version
newest [] = refuse NoVersion
newest (v ∷ vs) = by_status v.status (newest vs) (accepted v) (newest vs)

-- the newest committed version stamped below s
abbrev pub newest_below : ℕ → List Version → Outcome Version
newest_below s [] = refuse NoVersion
newest_below s (v ∷ vs) =
    cond (nat_lt v.write s) (by_status v.status (newest_below s vs) (accepted v) (newest_below s vs)) (newest_below s vs)

-- a search in a cell of a table
abbrev pub search : (List Version → Outcome Version) → Table → ℕ → Outcome Version
search found t c = in_cell t c (found (reach (t.versions c)))
