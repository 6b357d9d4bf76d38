-- collect, and a keep line that rises.
use Rattle.std.proofs.lemmas.Bool.Decides.{nat_tests}
use Rattle.std.proofs.Common.{◌≡◌, ℕ, ◌<◌, ◌≤◌, cond, ◌&&◌, eqb, ltb, ◌⊎◌, Some, None, Option, inl, inr, ⊎_elim, arith}
use Rattle.words.specs.declared.version.Version.{Version}
use Rattle.law.proofs.State.{Progress, State, Runs, Stands, Inv}

abbrev pub with_versions : State → (ℕ → ℕ → Option Version) → State
with_versions s at = record { cells = s.cells; pass = s.pass; at = at }

-- the cell c is cut at the stamp of a committed version below the keep line
module _ (s : State) (line : ℕ) (inv : Inv s line) (c w : ℕ) (stands : Stands s c w) (low : w < line)
    (at : ℕ → ℕ → Option Version) (cut : (d u : ℕ) → at d u ≡ cond (eqb c d && ltb u w) None (s.at d u)) where
  back : (d u : ℕ) (x : Version) → at d u ≡ Some x → s.at d u ≡ Some x
  back d u x h = let z = cut d u in grind arith

  -- a committed version stays, or that at which the cut was made is newer
  stays : (d u : ℕ) → Stands s d u → Stands (with_versions s at) d u ⊎ ((u < w) × Stands (with_versions s at) d w)
  stays d u (x, h, done) = grind arith

  pub collects : Inv (with_versions s at) line
  collects = record {
    agrees = record {
      stands = λ d u x h. inv.agrees.stands d u x (back d u x h);
      owned = λ d u x h. inv.agrees.owned d u x (back d u x h);
      there = grind arith;
      missing = grind arith;
      covered = λ d u v h. ⊎_elim
          (λ a. ⊎_elim (λ b. inl b) (λ b. inr (w, b.1, b.0, low)) (stays d u a))
          (λ a. ⊎_elim (λ b. inr (a.0, b, a.2, a.3)) (λ b. inr (w, b.1, omega arith, low)) (stays d a.0 a.1))
          (inv.agrees.covered d u v h);
      stamped = grind arith;
    };
    zero = inv.zero;
    apart = inv.apart;
    sources = inv.sources;
    crossing = inv.crossing;
    full = inv.full;
    line_below = inv.line_below;
  }

-- the keep line rises, but not above a running pass
pub rises : (s : State) (line line' : ℕ) → Inv s line → line ≤ line' → ((t : ℕ) (P : Progress) → Runs s t P → line' ≤ t) → Inv s line'
rises s line line' inv le under = grind (arith, nat_tests)
