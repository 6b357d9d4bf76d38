use Rattle.std.proofs.Common.{ap, rules}
use Rattle.rows.specs.Places.{eight_places}
use Rattle.rows.proofs.Chosen.{rows_cleared}
use Rattle.rows.proofs.table.RowTable.new.Goals as goal

pub returns : goal.returns
returns c =
    let made = c.from_fn.ensures.items in
    ap (eight_places 128) (rows_cleared _ made.long (λ k d l. let h = made.at k d l in search rules))
