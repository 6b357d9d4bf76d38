use Rattle.std.proofs.Common.{rules, tests}
use Rattle.spare.proofs.Positions.{beside_here, beside_between, beside_after}
use Rattle.spare.proofs.ask.version_beside.Goals as goal

pub returns-then-is_ok_and : goal.returns-then-is_ok_and
returns-then-is_ok_and g c =
    let sound = g.T.VersionTable.sound c.args.table.now in
    search (rules, tests, beside_here)

pub returns-in_err-before : goal.returns-in_err-before
returns-in_err-before g c =
    let sound = g.T.VersionTable.sound c.args.table.now in
    search (rules, tests, beside_after)

pub returns-then-before-spare : goal.returns-then-before-spare
returns-then-before-spare g c =
    let sound = g.T.VersionTable.sound c.args.table.now in
    search (rules, tests, beside_between)

pub returns : goal.returns
returns g c =
    let sound = g.T.VersionTable.sound c.args.table.now in
    search (rules, tests, beside_after)
