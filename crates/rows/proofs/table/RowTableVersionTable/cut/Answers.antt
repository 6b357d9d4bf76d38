use Rattle.std.proofs.Common.{arith}
use Rattle.rows.proofs.Chosen.{row_cuts}
use Rattle.rows.proofs.table.RowTableVersionTable.cut.Goals as goal

pub returns-clause-after : goal.returns-clause-after
returns-clause-after c =
    row_cuts c.args.self.now.rows c.index-self-branch.result (grind arith) (grind arith) c.args.stamp c.cut.new.self c.cut.ensures.after
