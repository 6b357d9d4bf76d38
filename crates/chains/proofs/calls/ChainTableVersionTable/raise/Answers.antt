use Rattle.std.proofs.Common.{refl}
use Rattle.tables.specs.Versions.{raised}
use Rattle.chains.proofs.Alters.{raise_answers, alters}
use Rattle.chains.proofs.calls.ChainTableVersionTable.raise.Goals as goal

pub invariant_of-self : goal.invariant_of-self
invariant_of-self c =
    record { kept = (alters c.args.self.now.kept c.in_ok-at.ensures (raised c.args.to) (λ v. refl) _ cc).kept }

pub returns : goal.returns
returns c =
    let done = alters c.args.self.now.kept c.in_ok-at.ensures (raised c.args.to) (λ v. refl) _ cc in
    record {
      answer = raise_answers c.args.self.now.kept c.in_ok-at.ensures;
      after = done.altered;
      unused = done.unused;
    }
