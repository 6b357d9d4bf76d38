-- The statuses of a version, each by its number.
use Rattle.std.specs.Prelude.{ℕ, Bool, List, codes, ◌==◌}
use Rattle.words.specs.declared.status.Status.{Status}
use Rattle.words.specs.declared.status.Status.TheVariants.{Pending, Committed, Aborted}
use Rattle.words.specs.declared.status.Ending.{Ending}
use Rattle.words.specs.declared.status.Ending.TheVariants.{Commit, Abort}

abbrev pub number : Status → ℕ
number Pending = 0
number Committed = 1
number Aborted = 2

-- the name under which it is shown
abbrev pub name : Status → List ℕ
name Pending = codes "pending"
name Committed = codes "committed"
name Aborted = codes "aborted"

abbrev pub pending : Status → Bool
pending s = number s == 0

-- the status of a version that has ended
abbrev pub ended : Ending → Status
ended Commit = Committed
ended Abort = Aborted
