use Rattle.std.proofs.Common.{refl, rules}
use Rattle.words.specs.Outcome.{told}
use Rattle.map.proofs.Families.{write_performed}
use Rattle.map.proofs.crew.Crew.write.Goals as goal

pub returns : goal.returns
returns c t size =
    let i = c.args.self.now in
    let e = c.in_ok-seat.ensures in
    write_performed t t i c.args.worker c.worker.result.now c.edit.new.self e.0 (search rules) c.worker.ensures.value (told c.edit.result) _ (λ v. refl) c.args.entry.cell (rw size c.if-entry-cells.false) c.args.entry.value c.edit.ensures.after
