use Rattle.std.proofs.Common.{◌-◌, min, vec_items, ap, ◌∙◌, rules}
use Rattle.rules.specs.Stamps.{least, look_floor}
use Rattle.map.specs.Plate.{seated}
use Rattle.map.proofs.Lowest.{least_used}
use Rattle.map.proofs.crew.Crew.keep_line.Goals as goal

pub returns : goal.returns
returns c t =
    let i = c.args.self.now in
    let f = c.floor-floor.result in
    (rw c.in_use.ensures at c.keep.ensures) ∙ ap (min f) (least_used (λ x w. look_floor x.stage f) i.count (vec_items i.workers) (search rules) (search rules)) ∙
    ap (λ f. min f (least (λ w. look_floor (seated (vec_items i.workers) w).stage f) (i.count - 1))) (c.floor-floor.ensures t)
