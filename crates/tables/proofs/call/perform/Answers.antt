use Rattle.tables.specs.Calls.{next}
use Rattle.tables.proofs.Reaches.{reached_strict}
use Rattle.tables.proofs.call.perform.Goals as goal

pub returns-clause-strict : goal.returns-clause-strict
returns-clause-strict g c r = reached_strict (next c.args.call r c.dispatch.ensures.after)
