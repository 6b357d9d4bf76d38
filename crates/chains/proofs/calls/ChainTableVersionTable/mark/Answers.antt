use Rattle.std.proofs.Common.{true, false, refl, sym, ◌∙◌}
use Rattle.std.proofs.lemmas.Result.{err_from_is_err_and}
use Rattle.tables.specs.Versions.{marked}
use Rattle.chains.specs.Store.{store}
use Rattle.chains.proofs.Alters.{mark_answers, alters, not_marked}
use Rattle.chains.proofs.calls.ChainTableVersionTable.mark.Goals as goal

pub returns-in_err-at-clause-answer : goal.returns-in_err-at-clause-answer
returns-in_err-at-clause-answer c =
    let p = err_from_is_err_and c.from_residual.result c.from_residual.ensures.1 in
    rw (p.1, p.2) (not_marked (store c.args.self.now.links) c.args.cell c.args.stamp c.in_err-at.field-0.0 c.in_err-at.ensures)

pub returns-then-not-is_pending-clause-answer : goal.returns-then-not-is_pending-clause-answer
returns-then-not-is_pending-clause-answer c =
    mark_answers c.args.self.now.kept c.in_ok-at.ensures false (sym c.is_pending.ensures ∙ c.if-not-is_pending.true)

pub invariant_of-self : goal.invariant_of-self
invariant_of-self c =
    record { kept = (alters c.args.self.now.kept c.in_ok-at.ensures (marked c.args.ending) (λ v. refl) _ cc).kept }

pub returns : goal.returns
returns c =
    let done = alters c.args.self.now.kept c.in_ok-at.ensures (marked c.args.ending) (λ v. refl) _ cc in
    record {
      answer = mark_answers c.args.self.now.kept c.in_ok-at.ensures true (sym c.is_pending.ensures ∙ c.if-not-is_pending.false);
      after = done.altered;
      unused = done.unused;
    }
