use Rattle.std.proofs.Common.{map, length, ap, rules}
use Rattle.chains.specs.Chain.{stop}
use Rattle.chains.proofs.Paths.{at_some, opened}
use Rattle.chains.proofs.chain.ChainIterator.next.Goals as goal

pub invariant_of-self : goal.invariant_of-self
invariant_of-self c =
    let chain = c.args.self.now in
    record { ends = (at_some chain.records.now chain.first c.in_ok-at.at chain.ends c.in_ok-at.was).onward }

pub returns-clause-steps : goal.returns-clause-steps
returns-clause-steps c =
    let chain = c.args.self.now in
    ap (map (stop chain.records.now)) (opened chain.records.now chain.first c.in_ok-at.at chain.ends c.in_ok-at.was)

pub returns-clause-goes : goal.returns-clause-goes
returns-clause-goes c =
    let chain = c.args.self.now in
    let fewer = ap length (ap (map (stop chain.records.now)) (opened chain.records.now chain.first c.in_ok-at.at chain.ends c.in_ok-at.was)) in
    search rules
