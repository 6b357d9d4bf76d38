use Rattle.std.proofs.Common.{refl}
use Rattle.rows.proofs.Chosen.{rows_exact}
use Rattle.rows.proofs.table.RowTable.places.Goals as goal

pub returns : goal.returns
returns c = record { answer = refl; exact = rows_exact c.args.self.now.rows }
