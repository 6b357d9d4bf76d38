use Rattle.std.proofs.Common.{◌≡◌, ℕ, ◌<◌, ◌^◌}
use Rattle.map.specs.Plate.{last_of}
use Rattle.map.proofs.Lowest.{lowest}
use Rattle.map.proofs.floor.floor.Given as goal

-- every timestamp is far below 2^64, so the bound that the loop starts from does not count
abbrev pub invariant-loop-i : goal.invariant-loop-i
invariant-loop-i l = (l.least ≡ lowest (last_of l.workers) l.initial.least l.i) × ((w : ℕ) → w < l.i → last_of l.workers w < 2 ^ 60)
