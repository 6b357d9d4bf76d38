-- install: the next write of a running pass comes in, pending, where its stamp was not.
use Rattle.std.proofs.Common.{◌≡◌, ℕ, ◌+◌, ◌-◌, ◌*◌, ◌<◌, false, cond, ◌&&◌, eqb, ◌⊎◌, take, Some, None, Option, sym, refl, ap, ◌∙◌, subst, ⊎_elim, arith}
use Rattle.std.proofs.lemmas.Bool.{cases_eq}
use Rattle.std.proofs.lemmas.Bool.Decides.{nat_tests}
use Rattle.words.specs.declared.status.Status.TheVariants.{Pending}
use Rattle.words.specs.declared.version.Version.{Version}
use Rattle.words.specs.Version.{new_version}
use Rattle.rules.specs.declared.entry.ReadEntry.{ReadEntry}
use Rattle.rules.specs.declared.entry.WriteEntry.{WriteEntry}
use Rattle.rules.specs.Sets.{nth}
use Rattle.law.proofs.State.{Progress, State, W, R, value_in, installed, Runs, Stands, Agrees, Inv}
use Rattle.law.proofs.Prefixes.{value_next, nth_short}
use Rattle.tables.proofs.Lengths.{put_here}
use Rattle.law.proofs.Moves.{not_ended, owned_moved, positive, one_pass, moved, committed_moved, advance}
use Rattle.law.proofs.Goes.{stepped}

module _ (s : State) (line : ℕ) (inv : Inv s line) (t : ℕ) (P : Progress) (runs : Runs s t P) (e : WriteEntry) (next : nth P.writes P.k ≡ Some e)
    (at : ℕ → ℕ → Option Version) (with_it : (c u : ℕ) → at c u ≡ cond (eqb e.cell c && eqb t u) (Some (new_version t e.value)) (s.at c u)) where
  pos : 0 < t
  pos = positive s line inv t P runs.0

  before : (O : Progress) → s.pass t ≡ Some O → O.ended ≡ false
  before = not_ended s t P runs

  short : P.k < W P
  short = nth_short P.writes P.k e next

  -- its stamp is not taken
  pub untaken : s.at e.cell t ≡ None
  untaken = inv.agrees.missing t P e.cell runs (inv.apart t P runs.0 P.k e next)

  now_installed : (c : ℕ) → installed (stepped P) c ≡ cond (eqb e.cell c) (Some e.value) (installed P c)
  now_installed c = grind (arith, nat_tests, value_next)

  -- a version afterwards is the new one, or was there
  at_cases : (c u : ℕ) (y : Version) → at c u ≡ Some y → ((e.cell ≡ c) × (u ≡ t) × (y ≡ new_version t e.value)) ⊎ (s.at c u ≡ Some y)
  at_cases c u y h = grind arith

  -- what was there is there
  stays_there : (c u : ℕ) (x : Version) → s.at c u ≡ Some x → at c u ≡ Some x
  stays_there c u x h = grind (arith, nat_tests, untaken)

  install_agrees : Agrees (moved s t (stepped P) at) line
  install_agrees = record {
    stands = grind arith;
    owned = λ c u y h still. ⊎_elim
        (λ a. (stepped P, here u a.1, now_installed c ∙ mine c y a.0 a.2))
        (λ a. owned_moved s t (stepped P) at pos refl before c u y.value (inv.agrees.owned c u y a still) (λ O q i. let z = one_pass s t P O runs.0 q in now_installed c ∙ older c y.value (ap (λ (z : Progress). installed z c) (sym z) ∙ i)))
        (at_cases c u y h);
    there = grind (arith, nat_tests, own, now_installed);
    missing = grind (arith, nat_tests, now_installed);
    covered = grind arith;
    stamped = grind (arith, nat_tests, short, not_read);
  }
    where
      here : (u : ℕ) → u ≡ t → Runs (moved s t (stepped P) at) u (stepped P)
      here u q = grind arith

      mine : (c : ℕ) (y : Version) → e.cell ≡ c → y ≡ new_version t e.value → cond (eqb e.cell c) (Some e.value) (installed P c) ≡ Some y.value
      mine c y p q = grind arith

      older : (c v : ℕ) → installed P c ≡ Some v → cond (eqb e.cell c) (Some e.value) (installed P c) ≡ Some v
      older c v h = grind arith

      own : (c v : ℕ) → cond (eqb e.cell c) (Some e.value) (installed P c) ≡ Some v → (x : Version) × (at c t ≡ Some x) × (x.status ≡ Pending) × (x.value ≡ v)
      own c v h = ⊎_elim
          (λ (p : e.cell ≡ c). (new_version t e.value, (let z = with_it c t in grind arith), refl, grind arith))
          (λ (p : e.cell ≡ c → ⊥). let x = inv.agrees.there t P c v runs (grind arith) in (x.0, stays_there c t x.0 x.1, x.2, x.3))
          (cases_eq e.cell c)

      still : (c u : ℕ) → Stands s c u → Stands (moved s t (stepped P) at) c u
      still c u (x, h, d) = (x, stays_there c u x h, d)

      not_read : (u : ℕ) (Q : Progress) (j : ℕ) (g : ReadEntry) → s.pass u ≡ Some Q → nth Q.reads j ≡ Some g → g.stamp ≡ t → ⊥
      not_read u Q j g h n q = let r = inv.sources u Q j g h n in let z = committed_moved s t (stepped P) at pos refl before g.cell g.stamp in let y = pos in let w = put_here s.pass t (Some (stepped P)) in absurd (grind arith)

  pub installs : Inv (moved s t (stepped P) at) line
  installs = advance s t (stepped P) at pos refl before line inv (inv.line_below t P runs) install_agrees (inv.apart t P runs.0) (λ j g n. inv.sources t P j g runs.0 n)
      (λ j v g u Q n far. let y = short in absurd (omega arith))
      (λ j v g u Q h n far wrote. absurd (let y = short in let z = subst (λ m. value_in (take m P.writes) g.cell ≡ Some v) (let y : P.k + 1 - (W P + 2 * R P) ≡ 0 = omega arith in y) wrote in grind arith))
