use Rattle.law.proofs.standing.law_stands.Goals as goal
use Rattle.law.proofs.Runs.{law_of_runs}

pub returns : goal.returns
returns c = record { law = law_of_runs }
