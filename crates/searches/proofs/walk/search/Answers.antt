use Rattle.std.proofs.Common.{◌<◌, ◌≤◌, ◌+◌, ◌^◌, Ok, Some, None, sym, ◌∙◌, arith}
use Rattle.words.proofs.Told.{told_exit}
use Rattle.searches.proofs.Steps.{turn_refused, turn_judged, cell_there, turn_none}
use Rattle.searches.proofs.walk.search.Goals as goal

pub returns-in_err-version : goal.returns-in_err-version
returns-in_err-version g c =
    let t = g.T.VersionTable.meaning c.args.table.now in
    let low : c.loop-at.at < 2 ^ 64 = omega arith in
    told_exit c.from_residual.result _ c.from_residual.ensures.1 ∙
    sym (c.loop-at.invariant ∙ turn_refused t c.args.cell c.loop-at.at c.args.sought low _ c.in_err-version.ensures)

pub returns-in_err-version-2 : goal.returns-in_err-version-2
returns-in_err-version-2 g c =
    let t = g.T.VersionTable.meaning c.args.table.now in
    let low : c.loop-at.at < 2 ^ 64 = omega arith in
    told_exit c.from_residual-in_err-version-2.result _ c.from_residual-in_err-version-2.ensures.1 ∙
    sym (c.loop-at.invariant ∙ turn_judged t c.args.cell c.loop-at.at c.args.sought low _ _ c.in_ok-version.ensures c.in_err-version-2.ensures)

pub returns-in-Some : goal.returns-in-Some
returns-in-Some g c =
    let t = g.T.VersionTable.meaning c.args.table.now in
    let low : c.loop-at.at < 2 ^ 64 = omega arith in
    sym (c.loop-at.invariant ∙ turn_judged t c.args.cell c.loop-at.at c.args.sought low _ (Ok (Some c.in-Some.version)) c.in_ok-version.ensures (rw (← c.in-Some.is) c.in_ok-version-2.ensures))

pub loop-at-preserved : goal.loop-at-preserved
loop-at-preserved g c =
    let t = g.T.VersionTable.meaning c.args.table.now in
    let low : c.loop-at.at < 2 ^ 64 = omega arith in
    c.loop-at.invariant ∙ turn_judged t c.args.cell c.loop-at.at c.args.sought low _ (Ok None) c.in_ok-version.ensures (rw (← c.in_default.is) c.in_ok-version-2.ensures)

pub returns-in_default : goal.returns-in_default
returns-in_default g c =
    let t = g.T.VersionTable.meaning c.args.table.now in
    let low : c.loop-at.at < 2 ^ 64 = omega arith in
    let past : 2 ^ 64 ≤ c.loop-at.at + 1 = omega arith in
    let there = cell_there t c.args.cell c.loop-at.at c.args.sought low _ c.in_ok-version.ensures in
    sym (c.loop-at.invariant ∙ turn_judged t c.args.cell c.loop-at.at c.args.sought low _ (Ok None) c.in_ok-version.ensures (rw (← c.in_default.is) c.in_ok-version-2.ensures) ∙ turn_none t c.args.cell (c.loop-at.at + 1) c.args.sought past there)
