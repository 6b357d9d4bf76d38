use Rattle.words.proofs.Told.{told_exit}
use Rattle.map.proofs.Families.{show_none}
use Rattle.map.proofs.crew.Crew.show.Goals as goal

pub returns-in_err-search : goal.returns-in_err-search
returns-in_err-search g c =
    rw (told_exit c.from_residual.result _ c.from_residual.ensures.1)
    (show_none (g.T.VersionTable.meaning c.args.table.now) c.args.self.now c.args.cell _ c.in_err-search.ensures)
