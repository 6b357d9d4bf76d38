-- A running pass goes on, and nothing else does: what is left to show.
use Rattle.std.proofs.Common.{◌≡◌, ℕ, ◌+◌, ◌<◌, ◌≤◌, false, ◌⊎◌, Some, None, Option, ◌∙◌, subst, ⊎_elim, arith}
use Rattle.std.proofs.lemmas.Bool.{cases_eq}
use Rattle.std.proofs.lemmas.Bool.Decides.{nat_tests}
use Rattle.words.specs.declared.version.Version.{Version}
use Rattle.tables.specs.Table.{put}
use Rattle.rules.specs.declared.entry.ReadEntry.{ReadEntry}
use Rattle.rules.specs.Sets.{nth}
use Rattle.law.proofs.State.{Progress, State, W, R, installed, checked, committed, committed_by, Runs, Apart, Agrees, Inv}

-- a changed function, at the place of the change and elsewhere
pub put_cases : {A : Type 0} (f : ℕ → Option A) (t : ℕ) (o : Option A) (u : ℕ) (x : A) → put f t o u ≡ Some x → ((u ≡ t) × (o ≡ Some x)) ⊎ ((u ≡ t → ⊥) × (f u ≡ Some x))
put_cases f t o u x h = grind arith

-- a pass is stamped above 0, and one stamp has one pass
pub positive : (s : State) (line : ℕ) → Inv s line → (t : ℕ) (P : Progress) → s.pass t ≡ Some P → 0 < t
positive s line inv t P h = grind arith

pub one_pass : (s : State) (t : ℕ) (P O : Progress) → s.pass t ≡ Some P → s.pass t ≡ Some O → O ≡ P
one_pass s t P O h e = cc

-- a stamp under which a pass runs has no pass that ended
pub not_ended : (s : State) (t : ℕ) (P : Progress) → Runs s t P → (O : Progress) → s.pass t ≡ Some O → O.ended ≡ false
not_ended s t P runs O h = grind (arith, one_pass)

-- the pass stamped t becomes P, and the versions are at
abbrev pub moved : State → ℕ → Progress → (ℕ → ℕ → Option Version) → State
moved s t P at = record { cells = s.cells; pass = put s.pass t (Some P); at = at }

module _ (s : State) (t : ℕ) (P : Progress) (at : ℕ → ℕ → Option Version) (pos : 0 < t) (running : P.ended ≡ false) (before : (O : Progress) → s.pass t ≡ Some O → O.ended ≡ false) where
  none_yet : (c : ℕ) → committed_by (s.pass t) c ≡ None
  none_yet c = grind arith

  -- nothing is committed by it
  pub committed_moved : (c w : ℕ) → committed (moved s t P at) c w ≡ committed s c w
  committed_moved c w = let n = none_yet c in grind arith

  -- a pass afterwards is P, or was there before
  pub pass_moved : (u : ℕ) (Q : Progress) → (moved s t P at).pass u ≡ Some Q → ((u ≡ t) × (Q ≡ P)) ⊎ ((u ≡ t → ⊥) × (s.pass u ≡ Some Q))
  pass_moved u Q h = grind arith

  -- what a running pass had installed is installed by a running pass
  pub owned_moved : (c u v : ℕ) → (O : Progress) × Runs s u O × (installed O c ≡ Some v) → ((O : Progress) → s.pass t ≡ Some O → installed O c ≡ Some v → installed P c ≡ Some v)
      → (O : Progress) × Runs (moved s t P at) u O × (installed O c ≡ Some v)
  owned_moved c u v (O, runs, has) same = ⊎_elim
      (λ (q : u ≡ t). (P, grind (arith, nat_tests), same O (grind arith) has))
      (λ (q : u ≡ t → ⊥). (O, grind (arith, nat_tests), has))
      (cases_eq u t)

  pub advance : (line : ℕ) → Inv s line → line ≤ t → Agrees (moved s t P at) line → Apart P.writes
      → ((j : ℕ) (g : ReadEntry) → nth P.reads j ≡ Some g → (g.stamp < t) × (committed s g.cell g.stamp ≡ Some g.value))
      → ((j v : ℕ) (g : ReadEntry) (u : ℕ) (Q : Progress) → nth P.reads j ≡ Some g → W P + R P + j < P.k → s.pass u ≡ Some Q → checked Q g.cell ≡ Some v → g.stamp < u → u < t → ⊥)
      → ((j v : ℕ) (g : ReadEntry) (u : ℕ) (Q : Progress) → s.pass u ≡ Some Q → nth Q.reads j ≡ Some g → W Q + R Q + j < Q.k → checked P g.cell ≡ Some v → g.stamp < t → t < u → ⊥)
      → Inv (moved s t P at) line
  advance line inv le agrees apart sources reader writer = record {
    agrees = agrees;
    zero = grind arith;
    apart = grind arith;
    sources = λ u Q j g h n. ⊎_elim
        (λ a. let r = sources j g (subst (λ (z : Progress). nth z.reads j ≡ Some g) a.1 n) in (omega arith, committed_moved g.cell g.stamp ∙ r.1))
        (λ a. let r = inv.sources u Q j g a.1 n in (r.0, committed_moved g.cell g.stamp ∙ r.1))
        (pass_moved u Q h);
    crossing = grind arith;
    full = grind arith;
    line_below = grind arith;
  }
