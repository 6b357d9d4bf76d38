use Rattle.std.proofs.Common.{refl}
use Rattle.rules.proofs.standing.rules_stand.Goals as goal
use Rattle.rules.proofs.Refusals.{refused_unchanged}

pub returns : goal.returns
returns c = record { cases = (refl, refl, refl, refl, refl, refl, refl, refl, refl, refl, refl, refl, refl, refl, refl, refl, refl, refl, refl, refl, refl, refl, refl, refl); refusals = refused_unchanged }
