use Rattle.std.proofs.Common.{length}
use Rattle.chains.specs.Chain.{path}
use Rattle.chains.specs.Store.{store}
use Rattle.chains.proofs.Cutting.{Cutting}
use Rattle.chains.proofs.calls.ChainTableVersionTable.cut.Given as goal

abbrev pub invariant-loop-at : goal.invariant-loop-at
invariant-loop-at l = Cutting (store l.initial.self.links) (store l.self.links) l.cell l.stamp l.newer l.at l.gone

abbrev pub decreases-loop-at : goal.decreases-loop-at
decreases-loop-at l = length (path (store l.self.links).records l.at)
