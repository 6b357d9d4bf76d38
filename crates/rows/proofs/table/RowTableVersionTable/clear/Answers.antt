use Rattle.std.proofs.Common.{ap, arith}
use Rattle.rows.specs.Places.{eight_places}
use Rattle.rows.proofs.Chosen.{rows_cleared}
use Rattle.rows.proofs.Eight.{eight_cleared}
use Rattle.rows.proofs.table.RowTableVersionTable.clear.Goals as goal

pub returns-clause-after : goal.returns-clause-after
returns-clause-after c =
    let done = c.loop-row.invariant in
    let all = c.loop-row-test.false in
    eight_cleared _ _ _ (ap (eight_places 128) (rows_cleared _ done.0 (λ k d l. done.1 k d (omega (arith, all, l)))))
