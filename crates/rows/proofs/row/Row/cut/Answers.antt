use Rattle.std.proofs.Common.{length, ap, ◌∙◌, rules, arith}
use Rattle.arrayvec.proofs.ArrayVecLemmas.{filter-from_retain}
use Rattle.tables.specs.Versions.{sinks, stays}
use Rattle.tables.proofs.Cuts.{cut_keeps_sinking}
use Rattle.rows.specs.Row.{row_list}
use Rattle.rows.proofs.row.Row.cut.Goals as goal

pub invariant_of-self-clause-sinking : goal.invariant_of-self-clause-sinking
invariant_of-self-clause-sinking c =
    let after = filter-from_retain _ (stays c.args.stamp) _ (λ v b f' w k. search rules) _ _ c.retain.ensures.filtered in
    ap sinks after ∙ cut_keeps_sinking c.args.stamp (row_list c.args.self.now) c.args.self.now.sinking

pub returns : goal.returns
returns c =
    let after = filter-from_retain _ (stays c.args.stamp) _ (λ v b f' w k. search rules) _ _ c.retain.ensures.filtered in
    record { answer = omega (arith, ap length after); after = after }
