-- A map that was just made is good beside the empty history.
use Rattle.std.proofs.lemmas.Bool.Decides.{nat_tests}
use Rattle.std.proofs.Common.{◌≡◌, ℕ, ◌<◌, [], Some, None, refl, arith}
use Rattle.words.specs.Version.{first_version}
use Rattle.words.specs.declared.version.Version.{Version}
use Rattle.tables.specs.Table.{cleared}
use Rattle.rules.specs.Model.{Model, new_map}
use Rattle.law.specs.History.{no_history}
use Rattle.law.proofs.Under.{under}
use Rattle.law.proofs.State.{State, committed, Stands, Inv}
use Rattle.law.proofs.Serial.{Recorded}
use Rattle.law.proofs.Good.{state, Good}

-- the one version of a cleared cell
only_first : (cells c t : ℕ) (x : Version) → under t (cleared cells c) ≡ Some x → (c < cells) × (t ≡ 0) × (x ≡ first_version)
only_first cells c t x e = grind arith

module _ (workers cells : ℕ) where
  abbrev m : Model
  m = new_map workers cells

  abbrev s : State
  s = state m (λ t. None)

  first_stands : (c w v : ℕ) → committed s c w ≡ Some v → Stands s c w
  first_stands c w v e = (first_version, grind arith, refl)

  first_inv : (line : ℕ) → Inv s line
  first_inv line = grind (arith, nat_tests, first_stands)

  first_recorded : Recorded s []
  first_recorded = grind arith

  pub first_good : Good (new_map workers cells) no_history
  first_good = grind (arith, nat_tests, first_inv, only_first, first_recorded)
