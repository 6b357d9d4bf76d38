use Rattle.words.proofs.Told.{told_exit}
use Rattle.map.proofs.Families.{collect_found, collect_none}
use Rattle.map.proofs.crew.Crew.collect.Goals as goal

pub returns : goal.returns
returns g c =
    let t = g.T.VersionTable.meaning c.args.table.now in
    collect_found t (g.T.VersionTable.meaning c.cut.new.self) c.args.self.now c.args.cell c.keep_line-line.result c.in_ok-version.version c.cut.result (c.keep_line-line.ensures t) c.in_ok-version.ensures c.cut.ensures.answer c.cut.ensures.after

pub returns-in_err-version : goal.returns-in_err-version
returns-in_err-version g c =
    let t = g.T.VersionTable.meaning c.args.table.now in
    rw (told_exit c.from_residual.result _ c.from_residual.ensures.1)
    (collect_none t c.args.self.now c.args.cell c.keep_line-line.result c.in_err-version.field-0.0 (c.keep_line-line.ensures t) c.in_err-version.ensures)
