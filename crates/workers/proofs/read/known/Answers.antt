use Rattle.std.proofs.Common.{rules}
use Rattle.workers.proofs.Turns.{known_own, known_seen, known_none}
use Rattle.workers.proofs.read.known.Goals as goal

pub returns-in-Some : goal.returns-in-Some
returns-in-Some c = known_own c.args.reads.now c.args.writes.now c.args.cell c.in-Some.i (record { cell = 0; value = 0 }) (search rules)

pub returns : goal.returns
returns c = known_seen c.args.reads.now c.args.writes.now c.args.cell c.in_ok-i.i (record { cell = 0; stamp = 0; value = 0 }) (search rules) (search rules)

pub returns-in_err-i : goal.returns-in_err-i
returns-in_err-i c = rw c.from_residual.ensures (known_none c.args.reads.now c.args.writes.now c.args.cell (search rules) (search rules))
