use Rattle.std.proofs.Common.{◌≡◌, ◌-◌, vec_items, arith, rules}
use Rattle.workers.specs.Shape.{shape}
use Rattle.workers.proofs.Endings.{committed, aborted}
use Rattle.workers.proofs.worker.Worker.end.Goals as goal

pub returns-in-Sealed-Commit-clause-after : goal.returns-in-Sealed-Commit-clause-after
returns-in-Sealed-Commit-clause-after g c =
    let x = c.self.inside in
    let done = rw (c.as_slice.ensures.value, c.stamp-stamp.ensures.value, ← c.self.view_is) at c.settle.ensures in
    rw (c.in-Sealed-Commit.is-1, c.stamp-stamp.ensures.value, ← c.self.view_is, c.in-Sealed-Commit.is-0)
    (committed (g.T.VersionTable.meaning c.args.table.now) (g.T.VersionTable.meaning c.settle.new.table) c.args.seat.number (shape x) (vec_items x.reads) (vec_items x.writes) c.in-Sealed-Commit.k (search rules) done)

pub returns-in-Sealed-Abort-clause-after : goal.returns-in-Sealed-Abort-clause-after
returns-in-Sealed-Abort-clause-after g c =
    let x = c.self.inside in
    let n = c.min-installed.result in
    let whole : n - 0 ≡ n = omega arith in
    let marked = simp (whole, c.deref.ensures.value) at c.settle-in-Sealed-Abort.ensures in
    let done = rw (c.stamp-stamp.ensures.value, ← c.self.view_is) at marked in
    rw (c.in-Sealed-Abort.is-1, ← c.self.view_is, c.in-Sealed-Abort.is-0)
    (aborted (g.T.VersionTable.meaning c.args.table.now) (g.T.VersionTable.meaning c.settle-in-Sealed-Abort.new.table) c.args.seat.number (shape x) (vec_items x.reads) (vec_items x.writes) c.in-Sealed-Abort.k n (search rules) done)
