use Rattle.std.proofs.Common.{refl, arith}
use Rattle.tables.specs.Versions.{raised}
use Rattle.rows.proofs.Written.{written_is, written_sinks}
use Rattle.rows.proofs.row.Row.raise.Goals as goal

pub invariant_of-self-clause-sinking : goal.invariant_of-self-clause-sinking
invariant_of-self-clause-sinking c = written_sinks c.args.stamp (raised c.args.to) (λ v. refl) (grind arith) c.deref_mut.ensures.value (cc) c.args.self.now.sinking

pub returns-clause-after : goal.returns-clause-after
returns-clause-after c = written_is c.args.stamp (raised c.args.to) (λ v. refl) (grind arith) c.deref_mut.ensures.value (cc)
