use Rattle.std.proofs.Common.{◌≡◌, ◌<◌, length, None, sym, ◌∙◌, vec_items, rules}
use Rattle.workers.specs.Shape.{shape, known}
use Rattle.workers.proofs.Turns.{read_found}
use Rattle.workers.proofs.worker.Worker.read.Goals as goal

pub returns-in_ok-version-in-Open-clause-after : goal.returns-in_ok-version-in-Open-clause-after
returns-in_ok-version-in-Open-clause-after g c =
    let x = c.self.inside in
    let none : None ≡ known c.args.cell (vec_items x.reads) (vec_items x.writes) = rw (← c.as_slice.ensures.value, ← c.as_slice-in-Open.ensures.value) (sym c.in_default-known.is ∙ c.known.ensures) in
    let few : length (vec_items x.reads) < 16 = search rules in
    let seen = rw (c.stamp-stamp.ensures.value, ← c.self.view_is) at c.in_ok-version-in-Open.ensures in
    let t = read_found (shape x) (vec_items x.reads) (vec_items x.writes) (g.T.VersionTable.meaning c.args.table.now) c.args.seat.number c.args.cell none few c.in_ok-version-in-Open.version seen in
    rw (← c.self.view_is, c.in-Open.is, c.push_reserved.ensures.items) t
