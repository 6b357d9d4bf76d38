use Rattle.std.proofs.Common.{◌≡◌, vec_items, rules}
use Rattle.words.proofs.Told.{told_exit}
use Rattle.rules.specs.Turns.{steps_left}
use Rattle.workers.specs.Shape.{shape}
use Rattle.workers.proofs.Nexts.{not_installed, installed, install_calls, not_stamped, stamped, stamp_calls, read_kept, read_lost, write_kept, write_late}
use Rattle.workers.proofs.worker.Worker.step.Goals as goal

pub returns-in_err-insert-in-Sealed-Install-clause-after : goal.returns-in_err-insert-in-Sealed-Install-clause-after
returns-in_err-insert-in-Sealed-Install-clause-after g c =
    let x = c.self.inside in
    let t = g.T.VersionTable.meaning c.args.table.now in
    let e = c.index-entry.result.now in
    let answer = rw (c.stamp-stamp.ensures.value, ← c.self.view_is) at c.in_err-insert-in-Sealed-Install.ensures.answer in
    rw (told_exit c.from_residual.result _ c.from_residual.ensures.1, c.in-Sealed-Install.is-1, ← c.self.view_is, c.in-Sealed-Install.is-0)
    (not_installed t c.args.seat.number (shape x) (vec_items x.reads) (vec_items x.writes) c.in-Sealed-Install.k e (search rules) (search rules) (g.T.VersionTable.meaning c.insert.new.self) _ answer c.in_err-insert-in-Sealed-Install.ensures.after)

pub returns-in_ok-insert-in-Sealed-Install : goal.returns-in_ok-insert-in-Sealed-Install
returns-in_ok-insert-in-Sealed-Install g c =
    let x = c.self.inside in
    let t = g.T.VersionTable.meaning c.args.table.now in
    let e = c.index-entry.result.now in
    let answer = rw (c.stamp-stamp.ensures.value, ← c.self.view_is) at c.in_ok-insert-in-Sealed-Install.ensures.answer in
    let after = rw (c.stamp-stamp.ensures.value, ← c.self.view_is) at c.in_ok-insert-in-Sealed-Install.ensures.after in
    let left : c.go_on.result ≡ steps_left (vec_items x.reads) (vec_items x.writes) c.in-Sealed-Install.k = search rules in
    record {
      after = rw (left, c.go_on.ensures.stage, c.in-Sealed-Install.is-1, ← c.self.view_is, c.in-Sealed-Install.is-0)
          (installed t c.args.seat.number (shape x) (vec_items x.reads) (vec_items x.writes) c.in-Sealed-Install.k e (search rules) (search rules) (g.T.VersionTable.meaning c.insert.new.self) _ answer after);
      beneath = rw (c.in-Sealed-Install.is-1, ← c.self.view_is, c.in-Sealed-Install.is-0)
          (install_calls t c.args.seat.number (shape x) (vec_items x.reads) (vec_items x.writes) c.in-Sealed-Install.k e (search rules) (search rules) (g.T.VersionTable.meaning c.insert.new.self) _ answer after);
      bounds = search rules;
    }

pub returns-in_err-raise-in-Sealed-Stamp-clause-after : goal.returns-in_err-raise-in-Sealed-Stamp-clause-after
returns-in_err-raise-in-Sealed-Stamp-clause-after g c =
    let x = c.self.inside in
    let t = g.T.VersionTable.meaning c.args.table.now in
    let e = c.index.result.now in
    let answer = c.in_err-raise-in-Sealed-Stamp.ensures.answer in
    rw (told_exit c.from_residual-in_err-raise-in-Sealed-Stamp.result _ c.from_residual-in_err-raise-in-Sealed-Stamp.ensures.1, c.in-Sealed-Stamp.is-1, ← c.self.view_is, c.in-Sealed-Stamp.is-0)
    (not_stamped t c.args.seat.number (shape x) (vec_items x.reads) (vec_items x.writes) c.in-Sealed-Stamp.k e (search rules) (search rules) (search rules) (g.T.VersionTable.meaning c.raise.new.table) _ answer c.in_err-raise-in-Sealed-Stamp.ensures.after)

pub returns-in_ok-raise-in-Sealed-Stamp : goal.returns-in_ok-raise-in-Sealed-Stamp
returns-in_ok-raise-in-Sealed-Stamp g c =
    let x = c.self.inside in
    let t = g.T.VersionTable.meaning c.args.table.now in
    let e = c.index.result.now in
    let answer = c.in_ok-raise-in-Sealed-Stamp.ensures.answer in
    let after = rw (c.stamp-stamp.ensures.value, ← c.self.view_is) at c.in_ok-raise-in-Sealed-Stamp.ensures.after in
    let left : c.go_on-in-Sealed-Stamp.result ≡ steps_left (vec_items x.reads) (vec_items x.writes) c.in-Sealed-Stamp.k = search rules in
    record {
      after = rw (left, c.go_on-in-Sealed-Stamp.ensures.stage, c.in-Sealed-Stamp.is-1, ← c.self.view_is, c.in-Sealed-Stamp.is-0)
          (stamped t c.args.seat.number (shape x) (vec_items x.reads) (vec_items x.writes) c.in-Sealed-Stamp.k e (search rules) (search rules) (search rules) (g.T.VersionTable.meaning c.raise.new.table) _ answer after);
      beneath = rw (c.in-Sealed-Stamp.is-1, ← c.self.view_is, c.in-Sealed-Stamp.is-0)
          (stamp_calls t c.args.seat.number (shape x) (vec_items x.reads) (vec_items x.writes) c.in-Sealed-Stamp.k e (search rules) (search rules) (search rules) (g.T.VersionTable.meaning c.raise.new.table) _ answer after);
      bounds = search rules;
    }

pub returns-in_err-check_read-in-Sealed-Check-clause-after : goal.returns-in_err-check_read-in-Sealed-Check-clause-after
returns-in_err-check_read-in-Sealed-Check-clause-after g c =
    let x = c.self.inside in
    let t = g.T.VersionTable.meaning c.args.table.now in
    let e = c.index-in-Sealed-Check.result.now in
    let answer = rw (c.stamp-stamp.ensures.value, ← c.self.view_is) at c.in_err-check_read-in-Sealed-Check.ensures in
    rw (told_exit c.from_residual-in_err-check_read-in-Sealed-Check.result _ c.from_residual-in_err-check_read-in-Sealed-Check.ensures.1, c.in-Sealed-Check.is-1, ← c.self.view_is, c.in-Sealed-Check.is-0)
    (read_lost t c.args.seat.number (shape x) (vec_items x.reads) (vec_items x.writes) c.in-Sealed-Check.k e (search rules) (search rules) (search rules) _ answer)

pub returns-in_ok-check_read-in-Sealed-Check-clause-after : goal.returns-in_ok-check_read-in-Sealed-Check-clause-after
returns-in_ok-check_read-in-Sealed-Check-clause-after g c =
    let x = c.self.inside in
    let t = g.T.VersionTable.meaning c.args.table.now in
    let e = c.index-in-Sealed-Check.result.now in
    let answer = rw (c.stamp-stamp.ensures.value, ← c.self.view_is) at c.in_ok-check_read-in-Sealed-Check.ensures in
    let left : c.go_on-in-Sealed-Check.result ≡ steps_left (vec_items x.reads) (vec_items x.writes) c.in-Sealed-Check.k = search rules in
    rw (left, c.go_on-in-Sealed-Check.ensures.stage, c.in-Sealed-Check.is-1, ← c.self.view_is, c.in-Sealed-Check.is-0)
    (read_kept t c.args.seat.number (shape x) (vec_items x.reads) (vec_items x.writes) c.in-Sealed-Check.k e (search rules) (search rules) (search rules) answer)

pub returns-in_err-check_write-in-Sealed-Check-2-clause-after : goal.returns-in_err-check_write-in-Sealed-Check-2-clause-after
returns-in_err-check_write-in-Sealed-Check-2-clause-after g c =
    let x = c.self.inside in
    let t = g.T.VersionTable.meaning c.args.table.now in
    let e = c.index-in-Sealed-Check-2.result.now in
    let answer = rw (c.stamp-stamp.ensures.value, ← c.self.view_is) at c.in_err-check_write-in-Sealed-Check-2.ensures in
    rw (told_exit c.from_residual-in_err-check_write-in-Sealed-Check-2.result _ c.from_residual-in_err-check_write-in-Sealed-Check-2.ensures.1, c.in-Sealed-Check-2.is-1, ← c.self.view_is, c.in-Sealed-Check-2.is-0)
    (write_late t c.args.seat.number (shape x) (vec_items x.reads) (vec_items x.writes) c.in-Sealed-Check-2.k e (search rules) (search rules) (search rules) _ answer)

pub returns-in_ok-check_write-in-Sealed-Check-2-clause-after : goal.returns-in_ok-check_write-in-Sealed-Check-2-clause-after
returns-in_ok-check_write-in-Sealed-Check-2-clause-after g c =
    let x = c.self.inside in
    let t = g.T.VersionTable.meaning c.args.table.now in
    let e = c.index-in-Sealed-Check-2.result.now in
    let answer = rw (c.stamp-stamp.ensures.value, ← c.self.view_is) at c.in_ok-check_write-in-Sealed-Check-2.ensures in
    let left : c.go_on-in-Sealed-Check-2.result ≡ steps_left (vec_items x.reads) (vec_items x.writes) c.in-Sealed-Check-2.k = search rules in
    rw (left, c.go_on-in-Sealed-Check-2.ensures.stage, c.in-Sealed-Check-2.k-is, c.in-Sealed-Check-2.is-1, ← c.self.view_is, c.in-Sealed-Check-2.is-0)
    (write_kept t c.args.seat.number (shape x) (vec_items x.reads) (vec_items x.writes) c.in-Sealed-Check-2.k e (search rules) (search rules) (search rules) answer)
