use Rattle.std.proofs.Common.{refl, arith}
use Rattle.tables.specs.Versions.{marked}
use Rattle.rows.proofs.Written.{written_is, written_sinks}
use Rattle.rows.proofs.row.Row.mark.Goals as goal

pub invariant_of-self-2-clause-sinking : goal.invariant_of-self-2-clause-sinking
invariant_of-self-2-clause-sinking c = written_sinks c.args.stamp (marked c.args.ending) (λ v. refl) (grind arith) c.deref_mut.ensures.value (cc) c.args.self.now.sinking

pub returns-clause-after : goal.returns-clause-after
returns-clause-after c = written_is c.args.stamp (marked c.args.ending) (λ v. refl) (grind arith) c.deref_mut.ensures.value (cc)
