use Rattle.chains.proofs.Alters.{stamped_at}
use Rattle.chains.proofs.table.ChainTable.stamped.Goals as goal

pub returns : goal.returns
returns c = stamped_at c.args.self.now.kept c.in_ok-chain.ensures c.args.stamp c.stamped.result c.stamped.ensures.test c.stamped.ensures.found c.ok_or.result c.ok_or.ensures.value
