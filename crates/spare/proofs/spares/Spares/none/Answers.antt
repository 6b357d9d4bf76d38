use Rattle.std.proofs.Common.{◌≡◌, ℕ, replicate, None, Option, ap, ⊎_elim, arith}
use mathlib.Core.Path.{fun_ext}
use Rattle.std.proofs.lemmas.List.{get_or-replicate, get_or_past, length-replicate}
use Rattle.std.proofs.lemmas.Bool.{cases_lt}
use Rattle.words.specs.declared.version.Version.{Version}
use Rattle.spare.specs.Spare.{stored, spare_at, no_spares}
use Rattle.spare.proofs.spares.Spares.none.Goals as goal

-- n empty places
all_empty : (n : ℕ) → spare_at (replicate n None) ≡ no_spares
all_empty n =
    fun_ext (λ c.
    ap stored (⊎_elim
    (λ l. get_or-replicate {A = Option Version} n c None None l)
    (λ l. get_or_past (replicate n None) c None (omega (arith, length-replicate {A = Option Version} n None)))
    (cases_lt c n)))

pub returns : goal.returns
returns c = all_empty 1024
