use Rattle.std.proofs.Common.{◌≡◌}
use Rattle.rules.specs.Stamps.{look_floor}
use Rattle.map.specs.Plate.{seated}
use Rattle.map.proofs.Lowest.{lowest}
use Rattle.map.proofs.floor.keep.Given as goal

abbrev pub invariant-loop-worker : goal.invariant-loop-worker
invariant-loop-worker l = l.least ≡ lowest (λ w. look_floor (seated l.workers w).stage l.floor) l.floor l.worker-index
