use Rattle.std.proofs.Common.{vec_items, rules}
use Rattle.workers.specs.Shape.{shape}
use Rattle.workers.proofs.Turns.{write_some, write_full, write_more}
use Rattle.workers.proofs.worker.Worker.edit.Goals as goal

pub returns-in-Some-clause-after : goal.returns-in-Some-clause-after
returns-in-Some-clause-after c =
    let x = c.self.inside in
    let t = write_some (shape x) (vec_items x.reads) (vec_items x.writes) c.in-Open-Write.entry c.in-Some.i (search rules) in
    rw (c.in-Open-Write.is-1, ← c.self.view_is, c.in-Open-Write.is-0) (search (rules, t))

pub returns-in-None-clause-after : goal.returns-in-None-clause-after
returns-in-None-clause-after c =
    let x = c.self.inside in
    let t = write_full (shape x) (vec_items x.reads) (vec_items x.writes) c.in-Open-Write.entry (search rules) (search rules) in
    rw (c.in-Open-Write.is-1, ← c.self.view_is, c.in-Open-Write.is-0) t

pub returns-in-None-2-clause-after : goal.returns-in-None-2-clause-after
returns-in-None-2-clause-after c =
    let x = c.self.inside in
    let t = write_more (shape x) (vec_items x.reads) (vec_items x.writes) c.in-Open-Write.entry (search rules) (search rules) in
    rw (c.in-Open-Write.is-1, ← c.self.view_is, c.in-Open-Write.is-0) (search (rules, t))
