-- The refusals, each by its number and its detail.
use Rattle.std.specs.Prelude.{ℕ, List, codes}
use Rattle.words.specs.declared.refusal.Refusal.{Refusal}
use Rattle.words.specs.declared.refusal.Refusal.TheVariants.{NoWorker, NoCell, OutOfTurn, SetFull, ClockSpent, Wait, StampTaken, NoPlace, NoVersion, Changed, ReadLater, BadTarget, BadLine}

abbrev pub number : Refusal → ℕ
number NoWorker = 1
number NoCell = 2
number OutOfTurn = 3
number SetFull = 4
number ClockSpent = 5
number (Wait s) = 6
number StampTaken = 7
number NoPlace = 8
number NoVersion = 9
number Changed = 10
number ReadLater = 11
number BadTarget = 12
number (BadLine p) = 13

abbrev pub detail : Refusal → ℕ
detail NoWorker = 0
detail NoCell = 0
detail OutOfTurn = 0
detail SetFull = 0
detail ClockSpent = 0
detail (Wait s) = s
detail StampTaken = 0
detail NoPlace = 0
detail NoVersion = 0
detail Changed = 0
detail ReadLater = 0
detail BadTarget = 0
detail (BadLine p) = p

-- the name under which it is shown
abbrev pub name : Refusal → List ℕ
name NoWorker = codes "NO WORKER"
name NoCell = codes "NO CELL"
name OutOfTurn = codes "OUT OF TURN"
name SetFull = codes "SET FULL"
name ClockSpent = codes "CLOCK SPENT"
name (Wait d) = codes "WAIT"
name StampTaken = codes "STAMP TAKEN"
name NoPlace = codes "NO PLACE"
name NoVersion = codes "NO VERSION"
name Changed = codes "CHANGED"
name ReadLater = codes "READ LATER"
name BadTarget = codes "BAD TARGET"
name (BadLine d) = codes "BAD LINE"
