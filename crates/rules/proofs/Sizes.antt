-- No call changes the numbers of workers and of cells.
use Rattle.std.proofs.Common.{◌≡◌, ℕ, arith}
use Rattle.rules.specs.declared.call.Call.{Call}
use Rattle.rules.specs.Model.{Model}
use Rattle.rules.specs.Rules.{outcome}
use Rattle.rules.proofs.Ways.{every_way}

pub sizes_stay : (free : ℕ → ℕ) (m : Model) (call : Call) → ((outcome free m call).1.workers ≡ m.workers) × ((outcome free m call).1.cells ≡ m.cells)
sizes_stay free m = every_way free m (λ call done. (done.1.workers ≡ m.workers) × (done.1.cells ≡ m.cells)) (grind arith) (grind arith)
