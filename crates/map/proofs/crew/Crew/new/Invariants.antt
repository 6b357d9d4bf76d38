use Rattle.std.proofs.Common.{◌≡◌, replicate, vec_items, vec_len}
use Rattle.rules.specs.Model.{new_worker}
use Rattle.map.proofs.crew.Crew.new.Given as goal

abbrev pub invariant-loop-n : goal.invariant-loop-n
invariant-loop-n l = (vec_items l.workers ≡ replicate l._n new_worker) × (vec_len l.workers ≡ l._n)
