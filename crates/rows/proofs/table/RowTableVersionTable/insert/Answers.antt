use Rattle.std.proofs.Common.{arith}
use Rattle.rows.proofs.Chosen.{row_inserts}
use Rattle.rows.proofs.table.RowTableVersionTable.insert.Goals as goal

pub returns-clause-after : goal.returns-clause-after
returns-clause-after c =
    row_inserts c.args.self.now.rows c.index-self-branch.result (grind arith) (grind arith) c.args.stamp c.args.value c.insert.new.self c.insert.result c.insert.ensures.answer c.insert.ensures.after
