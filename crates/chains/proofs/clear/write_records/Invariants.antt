use Rattle.std.proofs.Common.{◌≡◌, ℕ, ◌<◌, get_or}
use Rattle.chains.specs.Chain.{blank}
use Rattle.chains.specs.Store.{cleared_record}
use Rattle.chains.proofs.clear.write_records.Given as goal

abbrev pub invariant-loop-at : goal.invariant-loop-at
invariant-loop-at l = (k : ℕ) → k < l.at → get_or l.record-items k blank ≡ cleared_record l.cells l.used k
