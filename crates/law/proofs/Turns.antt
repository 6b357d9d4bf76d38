-- Which entry of which set the next step of a sealed pass is about.
use Rattle.std.proofs.Common.{◌≡◌, ℕ, ◌+◌, ◌-◌, ◌*◌, ◌≤◌, List, length, Some, arith}
use Rattle.std.proofs.lemmas.Bool.Decides.{nat_tests}
use Rattle.rules.specs.declared.entry.ReadEntry.{ReadEntry}
use Rattle.rules.specs.declared.entry.WriteEntry.{WriteEntry}
use Rattle.rules.specs.Sets.{nth}
use Rattle.rules.specs.Rules.{Step, to_install, to_stamp, to_check_read, to_check_write, finished, next_step}

module _ (rs : List ReadEntry) (ws : List WriteEntry) (k : ℕ) where
  -- what the next step tells
  abbrev pub Turn : Step → Type 0
  Turn (to_install e) = nth ws k ≡ Some e
  Turn (to_stamp e) = (length ws ≤ k) × (nth rs (k - length ws) ≡ Some e)
  Turn (to_check_read e) = (length ws + length rs ≤ k) × (nth rs (k - (length ws + length rs)) ≡ Some e)
  Turn (to_check_write e) = (length ws + 2 * length rs ≤ k) × (nth ws (k - (length ws + 2 * length rs)) ≡ Some e)
  Turn finished = Unit {0}

  pub turn : (step : Step) → next_step rs ws k ≡ step → Turn step
  turn (to_install e) h = grind (arith, nat_tests)
  turn (to_stamp e) h = grind (arith, nat_tests)
  turn (to_check_read e) h = grind (arith, nat_tests)
  turn (to_check_write e) h = grind (arith, nat_tests)
  turn finished h = tt
