use Rattle.chains.specs.Chain.{met}
use Rattle.chains.proofs.Walks.{Passing}
use Rattle.chains.proofs.chain.Chain.place.Given as goal

abbrev pub invariant-loop-at : goal.invariant-loop-at
invariant-loop-at l = Passing l.fn.self.records.now l.fn.self.first l.stamp l.newer (met l.at-iterator.records.now l.at-iterator.first)
