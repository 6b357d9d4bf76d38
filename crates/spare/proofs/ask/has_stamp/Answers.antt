use Rattle.spare.proofs.Asks.{raise_asks}
use Rattle.spare.proofs.ask.has_stamp.Goals as goal

pub returns-clause-after : goal.returns-clause-after
returns-clause-after g c = raise_asks _ _ c.args.cell c.args.stamp c.raise.result c.raise.ensures.after
