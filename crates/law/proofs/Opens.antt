-- begin, and read and write of an open pass: no step is done, before or after.
use Rattle.std.proofs.Common.{◌≡◌, ℕ, ◌<◌, ◌≤◌, false, Some, None, arith}
use Rattle.std.proofs.lemmas.Bool.Decides.{nat_tests}
use Rattle.rules.specs.declared.entry.ReadEntry.{ReadEntry}
use Rattle.rules.specs.Sets.{nth}
use Rattle.law.proofs.State.{Progress, State, committed, Apart, Agrees, Inv}
use Rattle.law.proofs.Moves.{moved, advance}

module _ (s : State) (line : ℕ) (inv : Inv s line) (t : ℕ) (P : Progress) (pos : 0 < t) (le : line ≤ t) (running : P.ended ≡ false) (none : P.k ≡ 0)
    (before : (O : Progress) → s.pass t ≡ Some O → (O.ended ≡ false) × (O.k ≡ 0)) (unseen : (c : ℕ) → s.at c t ≡ None) where
  opened_agrees : Agrees (moved s t P s.at) line
  opened_agrees = grind (arith, nat_tests)

  pub opened : Apart P.writes
      → ((j : ℕ) (g : ReadEntry) → nth P.reads j ≡ Some g → (g.stamp < t) × (committed s g.cell g.stamp ≡ Some g.value))
      → Inv (moved s t P s.at) line
  opened apart sources = grind (arith, nat_tests, advance, opened_agrees)
