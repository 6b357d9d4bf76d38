use Rattle.std.proofs.Common.{vec_items, ◌∙◌, rules}
use Rattle.rules.specs.Stamps.{timestamp}
use Rattle.map.proofs.Lowest.{least_used}
use Rattle.map.proofs.crew.Crew.floor.Goals as goal

pub returns : goal.returns
returns c t =
    let i = c.args.self.now in
    (rw c.in_use.ensures at c.floor.ensures) ∙ least_used (λ x w. timestamp x.last w) i.count (vec_items i.workers) (search rules) (search rules)
