use Rattle.std.proofs.Common.{[]}
use Rattle.law.specs.Run.{made}
use Rattle.law.proofs.Runs.{law_of_runs}
use Rattle.map.proofs.plate.PlateMap.run.Goals as goal

pub returns : goal.returns
returns g c =
    let cells = (g.T.VersionTable.meaning c.args.table.now).cells in
    let m = c.in_ok-map.ensures in
    let a = c.in_ok-answers.ensures in
    let run = a.1 c.args.workers cells [] (made m.0 m.0.cells m.1) in
    record { one_each = a.0; run = run; law = law_of_runs c.args.workers cells _ _ _ run }
