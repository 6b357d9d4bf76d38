use Rattle.std.proofs.Common.{◌≡◌, ap, ◌∙◌, arith}
use Rattle.words.specs.Version.{new_version}
use Rattle.tables.specs.Versions.{sinks, top, with_version}
use Rattle.tables.proofs.Order.{sinks_with}
use Rattle.rows.specs.Row.{row_list}
use Rattle.rows.proofs.Found.{with_version_is}
use Rattle.rows.proofs.row.Row.insert.Goals as goal

pub invariant_of-self-clause-sinking : goal.invariant_of-self-clause-sinking
invariant_of-self-clause-sinking c =
    let v = new_version c.args.stamp c.args.value in
    let vs = row_list c.args.self.now in
    let after : c.insert.new.self.items ≡ with_version v vs = cc (with_version_is v vs) in
    ap sinks after ∙ sinks_with top v vs (omega arith) c.args.self.now.sinking
