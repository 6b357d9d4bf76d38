-- The workers in their places: what is read there, and what a change of one place is.
use Rattle.std.proofs.Common.{◌≡◌, ℕ, ◌<◌, List, length, get_or, set, arith}
use mathlib.Core.Path.{fun_ext}
use Rattle.std.proofs.lemmas.Bool.Decides.{nat_tests}
use Rattle.std.proofs.lemmas.Grind.{common_steps}
use Rattle.tables.specs.Table.{put}
use Rattle.rules.specs.Model.{Worker}
use Rattle.map.specs.Plate.{seated}

pub seated_at : (xs : List Worker) (w : ℕ) (x : Worker) → w < length xs → seated xs w ≡ get_or xs w x
seated_at xs w x h = grind (arith, common_steps)

pub seated_set : (xs : List Worker) (w : ℕ) (y : Worker) → w < length xs → seated (set xs w y) ≡ put (seated xs) w y
seated_set xs w y h = fun_ext (λ v. grind (arith, nat_tests, common_steps))
