use Rattle.chains.proofs.Walks.{passing_on, placed_at, placed_end}
use Rattle.chains.proofs.chain.Chain.place.Goals as goal

pub returns-then-version-stamp : goal.returns-then-version-stamp
returns-then-version-stamp c = placed_at c.loop-at.invariant c.in-Some.at c.in-Some.version _ c.in-Some.ensures.steps c.args.self.ends c.if-version-stamp.true

pub loop-at-preserved : goal.loop-at-preserved
loop-at-preserved c = passing_on c.loop-at.invariant c.in-Some.at c.in-Some.version _ c.in-Some.ensures.steps c.if-version-stamp.false

pub returns : goal.returns
returns c = placed_end c.loop-at.invariant c.in-None.ensures.steps.0
