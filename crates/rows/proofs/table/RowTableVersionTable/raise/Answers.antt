use Rattle.std.proofs.Common.{arith}
use Rattle.tables.specs.Versions.{raised}
use Rattle.rows.proofs.Chosen.{row_alters}
use Rattle.rows.proofs.table.RowTableVersionTable.raise.Goals as goal

pub returns-clause-after : goal.returns-clause-after
returns-clause-after c =
    row_alters c.args.self.now.rows c.index-self-branch.result (grind arith) (grind arith) c.args.stamp (raised c.args.to) c.raise.new.self c.raise.result c.raise.ensures.after
