use Rattle.std.proofs.Common.{◌≡◌, length, sym, ap, ◌∙◌, arith, rules}
use Rattle.rules.specs.Stamps.{look_floor}
use Rattle.map.specs.Plate.{seated}
use Rattle.map.proofs.Places.{seated_at}
use Rattle.map.proofs.Lowest.{lowest, lowest_all, keep_look, keep_rest}
use Rattle.map.proofs.floor.keep.Goals as goal
use Rattle.map.proofs.floor.keep.Goals.{in-Some, in_default}

pub loop-worker-preserved : goal.loop-worker-preserved
loop-worker-preserved c =
    let ws = c.args.workers.now in
    let i = c.loop-worker.worker-index in
    let b = c.args.floor in
    let x = c.worker-item.result in
    let here : x ≡ seated ws i = c.worker-item.is ∙ sym (seated_at ws i x c.loop-worker-test.true) in
    elim c.match-look_floor.branch [
      | in-Some w ↦ keep_look ws b i x c.loop-worker.least w.in-Some.look _ here c.loop-worker.invariant (sym w.in-Some.ensures.value) (search rules)
      | in_default w ↦ keep_rest ws b i x c.loop-worker.least _ here c.loop-worker.invariant (search rules) (search rules)
    ]

pub returns : goal.returns
returns c =
    let ws = c.args.workers.now in
    let all : c.loop-worker.worker-index ≡ length ws = let a = c.loop-worker-test.false in let b = c.loop-worker.auto.worker-index-end in omega arith in
    c.loop-worker.invariant ∙ ap (lowest (λ w. look_floor (seated ws w).stage c.args.floor) c.args.floor) all ∙ lowest_all (λ w. look_floor (seated ws w).stage c.args.floor) c.args.floor (length ws) c.requires
