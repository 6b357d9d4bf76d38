use Rattle.std.proofs.Common.{rules, refl, arith}
use Rattle.std.proofs.lemmas.Bool.Decides.{nat_tests}
use Rattle.tables.specs.Versions.{marked}
use Rattle.spare.specs.Spare.{spare_at, stamped}
use Rattle.spare.proofs.Beside.{pending_with}
use Rattle.spare.proofs.Layered.{found_is, layered_change, spare_change}
use Rattle.spare.proofs.layer.SpareLayerVersionTable.mark.Goals as goal

pub returns-in_default-clause-answer : goal.returns-in_default-clause-answer
returns-in_default-clause-answer g c = grind (arith, nat_tests, pending_with)

pub returns-in_default-clause-after : goal.returns-in_default-clause-after
returns-in_default-clause-after g c = search (rules, layered_change, found_is)

pub returns-then-not-is_pending-clause-answer : goal.returns-then-not-is_pending-clause-answer
returns-then-not-is_pending-clause-answer g c = grind (arith, nat_tests, pending_with)

pub returns-clause-answer : goal.returns-clause-answer
returns-clause-answer g c = grind (arith, nat_tests, pending_with)

pub returns-clause-after : goal.returns-clause-after
returns-clause-after g c =
    let t = g.T.VersionTable.meaning c.args.self.now.below.now in
    let spares = spare_at c.args.self.now.spares.places in
    let o = stamped c.args.stamp (spares c.args.cell) in
    let v = c.in-Some.spare in
    let is = found_is t c.args.cell _ o c.in_ok-spare.ensures _ c.in-Some.is in
    spare_change spares _ t c.args.cell c.args.stamp (marked c.args.ending) (λ v. refl) v _ (cc) is c.put.ensures
