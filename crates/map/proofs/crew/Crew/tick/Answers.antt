use Rattle.std.proofs.Common.{refl, rules}
use Rattle.words.specs.Outcome.{told}
use Rattle.map.proofs.Families.{tick_performed}
use Rattle.map.proofs.crew.Crew.tick.Goals as goal

pub returns : goal.returns
returns c t =
    let i = c.args.self.now in
    let e = c.in_ok-seat.ensures in
    tick_performed t t i c.args.worker c.worker.result.now c.tick.new.self e.0 (search rules) c.worker.ensures.value (told c.tick.result) _ (λ v. refl) c.args.call c.args.units (rw e.1 at c.tick.ensures.after)
