use Rattle.std.proofs.Common.{refl, rules}
use Rattle.words.specs.Outcome.{told}
use Rattle.map.proofs.Families.{abort_performed}
use Rattle.map.proofs.crew.Crew.abort.Goals as goal

pub returns : goal.returns
returns g c =
    let i = c.args.self.now in
    let e = c.in_ok-seat.ensures in
    abort_performed (g.T.VersionTable.meaning c.args.table.now) (g.T.VersionTable.meaning c.end.new.table) i c.args.worker c.worker.result.now c.end.new.self e.0 (search rules) c.worker.ensures.value (told c.end.result) _ (λ v. refl)
    (rw e.1 at c.end.ensures.after) (rw e.1 at c.end.ensures.beneath)
