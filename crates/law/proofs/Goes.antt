-- stamp and check: a step that installs nothing. Read stamps may rise.
use Rattle.std.proofs.Common.{◌≡◌, ℕ, suc, ◌+◌, ◌-◌, ◌*◌, ◌<◌, ◌≤◌, false, take, Some, None, Option, sym, refl, ap, ◌∙◌, subst, ⊎_elim, arith}
use Rattle.std.proofs.lemmas.List.{take_all}
use Rattle.std.proofs.lemmas.Bool.{cases_eq, cases_lt}
use Rattle.std.proofs.lemmas.Bool.Decides.{nat_tests}
use Rattle.words.specs.declared.status.Status.TheVariants.{Pending}
use Rattle.words.specs.declared.version.Version.{Version}
use Rattle.rules.specs.declared.entry.ReadEntry.{ReadEntry}
use Rattle.rules.specs.declared.entry.WriteEntry.{WriteEntry}
use Rattle.rules.specs.Sets.{nth}
use Rattle.law.proofs.State.{Progress, State, W, R, value_in, installed, checked, Runs, Agrees, Inv}
use Rattle.law.proofs.Prefixes.{value_step}
use Rattle.law.proofs.Moves.{not_ended, owned_moved, positive, one_pass, moved, advance}

-- the same versions, but for read stamps that rise
pub record Same (x y : Version) : Type 0 where
  pub status : y.status ≡ x.status
  pub value : y.value ≡ x.value
  pub read : x.read ≤ y.read

pub record Rises (at at' : ℕ → ℕ → Option Version) : Type 0 where
  pub back : (c u : ℕ) (y : Version) → at' c u ≡ Some y → (x : Version) × (at c u ≡ Some x) × Same x y
  pub on : (c u : ℕ) (x : Version) → at c u ≡ Some x → (y : Version) × (at' c u ≡ Some y) × Same x y

pub stays : (at : ℕ → ℕ → Option Version) → Rises at at
stays at = record {
  back = grind arith;
  on = grind arith;
}

-- one more step done
abbrev pub stepped : Progress → Progress
stepped P = record { reads = P.reads; writes = P.writes; k = P.k + 1; ended = false }

module _ (s : State) (line : ℕ) (inv : Inv s line) (t : ℕ) (P : Progress) (runs : Runs s t P) (past : W P ≤ P.k) (at : ℕ → ℕ → Option Version) (rises : Rises s.at at) where
  pos : 0 < t
  pos = positive s line inv t P runs.0

  before : (O : Progress) → s.pass t ≡ Some O → O.ended ≡ false
  before = not_ended s t P runs

  same_installed : (c : ℕ) → installed (stepped P) c ≡ installed P c
  same_installed c = grind (arith, nat_tests, take_all)

  goes_agrees : ((j : ℕ) (g : ReadEntry) (y : Version) → nth P.reads j ≡ Some g → W P + j ≡ P.k → at g.cell g.stamp ≡ Some y → t ≤ y.read) → Agrees (moved s t (stepped P) at) line
  goes_agrees fresh = record {
    stands = grind arith;
    owned = λ c u y h e. let x = rises.back c u y h in
        subst (λ v. (O : Progress) × Runs (moved s t (stepped P) at) u O × (installed O c ≡ Some v)) (sym x.2.value)
        (owned_moved s t (stepped P) at pos refl before c u x.0.value (inv.agrees.owned c u x.0 x.1 (sym x.2.status ∙ e)) (λ O q i. let z = one_pass s t P O runs.0 q in same_installed c ∙ ap (λ (z : Progress). installed z c) (sym z) ∙ i));
    there = grind (arith, nat_tests, was);
    missing = λ u Q c r i. no_version c u (gone u Q c r i);
    covered = grind arith;
    stamped = grind arith;
  }
    where
      was : (u : ℕ) (Q : Progress) (c v : ℕ) → Runs (moved s t (stepped P) at) u Q → installed Q c ≡ Some v → (x : Version) × (s.at c u ≡ Some x) × (x.status ≡ Pending) × (x.value ≡ v)
      was u Q c v r i = grind (arith, nat_tests, same_installed)

      gone : (u : ℕ) (Q : Progress) (c : ℕ) → Runs (moved s t (stepped P) at) u Q → installed Q c ≡ None → s.at c u ≡ None
      gone u Q c r i = grind (arith, nat_tests, same_installed)

      no_version : (c u : ℕ) → s.at c u ≡ None → at c u ≡ None
      no_version c u h = grind arith

  -- a step keeps the invariant, if what it checks crosses nothing
  pub goes : ((j : ℕ) (g : ReadEntry) (y : Version) → nth P.reads j ≡ Some g → W P + j ≡ P.k → at g.cell g.stamp ≡ Some y → t ≤ y.read)
      → ((j v : ℕ) (g : ReadEntry) (u : ℕ) (Q : Progress) → nth P.reads j ≡ Some g → W P + R P + j ≡ P.k → s.pass u ≡ Some Q → checked Q g.cell ≡ Some v → g.stamp < u → u < t → ⊥)
      → ((n : ℕ) (e : WriteEntry) → nth P.writes n ≡ Some e → W P + 2 * R P + n ≡ P.k
      → (j : ℕ) (g : ReadEntry) (u : ℕ) (Q : Progress) → s.pass u ≡ Some Q → nth Q.reads j ≡ Some g → W Q + R Q + j < Q.k → g.cell ≡ e.cell → g.stamp < t → t < u → ⊥)
      → Inv (moved s t (stepped P) at) line
  goes fresh reader writer = advance s t (stepped P) at pos refl before line inv (inv.line_below t P runs) (goes_agrees fresh) (inv.apart t P runs.0) (λ j g n. inv.sources t P j g runs.0 n)
      (λ j v g u Q n far h wrote above below. ⊎_elim
      (λ (q : W P + R P + j ≡ P.k). reader j v g u Q n q h wrote above below)
      (λ q. inv.crossing t u P Q j v g runs.0 h n (omega arith) wrote above below)
      (cases_eq (W P + R P + j) P.k))
      (λ j v g u Q h n far wrote above below. ⊎_elim
      (λ (q : P.k < W P + 2 * R P). absurd (let z = subst (λ m. value_in (take m P.writes) g.cell ≡ Some v) (let y : P.k + 1 - (W P + 2 * R P) ≡ 0 = omega arith in y) wrote in grind arith))
      (λ q. ⊎_elim
      (λ a. inv.crossing u t Q P j v g h runs.0 n far a above below)
      (λ a. writer (P.k - (W P + 2 * R P)) a.0 a.1 (omega arith) j g u Q h n far (sym a.2) above below)
      (value_step (P.k - (W P + 2 * R P)) P.writes g.cell v (subst (λ m. value_in (take m P.writes) g.cell ≡ Some v) (let y : P.k + 1 - (W P + 2 * R P) ≡ suc (P.k - (W P + 2 * R P)) = omega arith in y) wrote)))
      (cases_lt P.k (W P + 2 * R P)))
