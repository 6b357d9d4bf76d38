use Rattle.std.proofs.Common.{rules, arith}
use Rattle.std.proofs.lemmas.Bool.Decides.{nat_tests}
use Rattle.spare.specs.Spare.{spare_at}
use Rattle.spare.proofs.Beside.{holds_with, not_stamped}
use Rattle.spare.proofs.Layered.{found_is, layered_insert, spare_insert}
use Rattle.spare.proofs.layer.SpareLayerVersionTable.insert.Goals as goal

pub returns-in-Some-clause-answer : goal.returns-in-Some-clause-answer
returns-in-Some-clause-answer g c = grind (arith, nat_tests, holds_with)

pub returns-in-Some-2-clause-answer : goal.returns-in-Some-2-clause-answer
returns-in-Some-2-clause-answer g c = grind (arith, nat_tests, holds_with)

pub returns-in-Some-2-clause-after : goal.returns-in-Some-2-clause-after
returns-in-Some-2-clause-after g c = search (rules, layered_insert, found_is, not_stamped)

pub returns-in-None-2-clause-after : goal.returns-in-None-2-clause-after
returns-in-None-2-clause-after g c =
    let t = g.T.VersionTable.meaning c.args.self.now.below.now in
    let spares = spare_at c.args.self.now.spares.places in
    let o = spares c.args.cell in
    let empty = found_is t c.args.cell _ o c.in_ok-spare.ensures.answer _ c.in-None.is in
    rw c.has_stamp.ensures.after (spare_insert spares _ t c.args.cell c.args.stamp c.args.value empty (rw c.pending.ensures at c.put.ensures))
