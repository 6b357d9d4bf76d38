use Rattle.rows.specs.Row.{row_list}
use Rattle.rows.proofs.Found.{first_is}
use Rattle.rows.proofs.row.Row.place_of.Goals as goal

pub returns-clause-value : goal.returns-clause-value
returns-clause-value c = rw (c.unwrap_or.ensures, c.not_above.ensures, c.len.ensures.value) (first_is c.args.stamp (row_list c.args.self.now))
