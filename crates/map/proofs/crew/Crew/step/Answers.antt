use Rattle.std.proofs.Common.{refl, rules}
use Rattle.words.specs.Outcome.{told}
use Rattle.map.proofs.Families.{step_performed}
use Rattle.map.proofs.crew.Crew.step.Goals as goal

pub returns : goal.returns
returns g c =
    let i = c.args.self.now in
    let e = c.in_ok-seat.ensures in
    step_performed (g.T.VersionTable.meaning c.args.table.now) (g.T.VersionTable.meaning c.step.new.table) i c.args.worker c.worker.result.now c.step.new.self e.0 (search rules) c.worker.ensures.value (told c.step.result) _ (λ v. refl) c.args.call
    (rw e.1 at c.step.ensures.after) (rw e.1 at c.step.ensures.beneath)
