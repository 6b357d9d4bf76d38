use Rattle.std.proofs.Common.{arith}
use Rattle.tables.specs.Versions.{marked}
use Rattle.rows.proofs.Chosen.{row_alters}
use Rattle.rows.proofs.table.RowTableVersionTable.mark.Goals as goal

pub returns-clause-after : goal.returns-clause-after
returns-clause-after c =
    row_alters c.args.self.now.rows c.index-self-branch.result (grind arith) (grind arith) c.args.stamp (marked c.args.ending) c.mark.new.self c.mark.result c.mark.ensures.after
