use Rattle.std.proofs.Common.{refl, rules}
use Rattle.words.specs.Outcome.{told}
use Rattle.map.proofs.Families.{read_performed}
use Rattle.map.proofs.crew.Crew.read.Goals as goal

pub returns : goal.returns
returns g c =
    let i = c.args.self.now in
    let e = c.in_ok-seat.ensures in
    let t = g.T.VersionTable.meaning c.args.table.now in
    read_performed t t i c.args.worker c.worker.result.now c.read.new.self e.0 (search rules) c.worker.ensures.value (told c.read.result) _ (λ v. refl) c.args.cell (search rules) (rw e.1 at c.read.ensures.after)
