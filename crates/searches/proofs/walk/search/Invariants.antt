use Rattle.std.proofs.Common.{◌≡◌}
use Rattle.rules.specs.Search.{search}
use Rattle.searches.specs.Judge.{looks_for, left}
use Rattle.searches.proofs.walk.search.Given as goal

-- what is left of the list gives what the whole gives
abbrev pub invariant-loop-at : goal.invariant-loop-at
invariant-loop-at g l =
    let t = g.T.VersionTable.meaning l.table in
    search (looks_for l.sought) t l.cell ≡ left t l.cell l.sought l.at
