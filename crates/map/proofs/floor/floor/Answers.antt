use Rattle.std.proofs.Common.{◌≡◌, ◌-◌, length, ap, ◌∙◌, arith}
use Rattle.map.specs.Plate.{last_of}
use Rattle.map.proofs.Lowest.{lowest, lowest_all, lowest_met}
use Rattle.map.proofs.floor.floor.Goals as goal

pub returns : goal.returns
returns c =
    let ws = c.args.workers.now in
    let all : c.loop-i.i ≡ length ws = let a = c.loop-i-test.false in let b = c.loop-i.auto.i-end in omega arith in
    let low = lowest_met (last_of ws) 0 (length ws - 1) in
    let first = c.loop-i.invariant.1 0 (let q = c.requires.1 in omega arith) in
    c.loop-i.invariant.0 ∙ ap (lowest (last_of ws) 18446744073709551615) all ∙ lowest_all (last_of ws) 18446744073709551615 (length ws) c.requires.1 ∙ omega arith
