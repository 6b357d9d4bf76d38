use Rattle.std.proofs.Common.{◌≡◌, ◌≤◌, length, take, vec_items, vec_len, vec_capacity}
use Rattle.map.specs.Events.{GoesOn}
use Rattle.map.proofs.plate.PlateMap.perform_all.Given as goal

-- one answer for each call so far, and the run has gone on by their events
abbrev pub invariant-loop-call : goal.invariant-loop-call
invariant-loop-call g l =
    (vec_len l.answers ≡ l.call-index) × (length l.calls ≤ vec_capacity l.answers) × GoesOn g.T.VersionTable.meaning l.initial.self (take l.call-index l.calls) (vec_items l.answers) l.self
