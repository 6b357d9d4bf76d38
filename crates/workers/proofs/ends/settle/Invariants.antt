use Rattle.std.proofs.Common.{drop}
use Rattle.tables.specs.Table.{Table}
use Rattle.rules.specs.Beneath.{marks, Steps}
use Rattle.workers.proofs.ends.settle.Given as goal

-- the marks that are left, made from here, are all marks from the start
abbrev pub invariant-loop-entry : goal.invariant-loop-entry
invariant-loop-entry g l =
    (u : Table) → Steps (g.T.VersionTable.meaning l.table) (marks l.ending l.stamp (drop l.entry-index l.writes)) u
    → Steps (g.T.VersionTable.meaning l.initial.table) (marks l.ending l.stamp l.writes) u
