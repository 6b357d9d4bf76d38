-- The heart: a check that is accepted lets no checked write stand between a checked read and its pass.
use Rattle.std.proofs.Common.{◌≡◌, ℕ, ◌+◌, ◌-◌, ◌*◌, ◌<◌, ◌≤◌, true, false, Some, None, sym, subst, ⊎_elim, arith}
use Rattle.std.proofs.lemmas.List.{take_all}
use Rattle.std.proofs.lemmas.Bool.{cases_eq, cases_Bool}
use Rattle.words.specs.declared.status.Status.TheVariants.{Pending, Aborted}
use Rattle.words.specs.declared.version.Version.{Version}
use Rattle.rules.specs.declared.entry.ReadEntry.{ReadEntry}
use Rattle.rules.specs.Sets.{nth}
use Rattle.law.proofs.State.{Progress, State, W, R, value_in, checked, committed, Runs, Stands, Inv}
use Rattle.law.proofs.Prefixes.{value_longer, value_part}
use Rattle.law.proofs.Searches.{Finds, Lacks}

-- a committed write under a stamp above 0 is a pass's, and a pass's is committed
pub by_pass : (s : State) (c t v : ℕ) → committed s c t ≡ Some v → 0 < t → (P : Progress) × (s.pass t ≡ Some P) × (P.ended ≡ true) × (value_in P.writes c ≡ Some v)
by_pass s c t v h pos = grind arith

pub of_pass : (s : State) (c t v : ℕ) (P : Progress) → s.pass t ≡ Some P → s.pass 0 ≡ None → P.ended ≡ true → value_in P.writes c ≡ Some v → committed s c t ≡ Some v
of_pass s c t v P e zero done h = grind arith

module _ (s : State) (line : ℕ) (inv : Inv s line) where
  -- below a stamp that the keep line is not above, a committed write is covered
  pub cover : (c w v t : ℕ) → committed s c w ≡ Some v → w < t → line ≤ t → (u : ℕ) × Stands s c u × (w ≤ u) × (u < t)
  cover c w v t h lt le = grind arith

  -- so what a search below t finds is no older
  pub found_after : (c w v t : ℕ) (x : Version) → committed s c w ≡ Some v → w < t → line ≤ t → Finds (λ g. g ≡ Aborted) t (s.at c) x → w ≤ x.write
  found_after c w v t x h lt le found = grind arith

  -- the check of a read
  pub cross_read : (t : ℕ) → line ≤ t → (g : ReadEntry) (x : Version) → Finds (λ z. z ≡ Aborted) t (s.at g.cell) x → x.write ≡ g.stamp
      → (u : ℕ) (Q : Progress) (v : ℕ) → s.pass u ≡ Some Q → checked Q g.cell ≡ Some v → g.stamp < u → u < t → ⊥
  cross_read t le g x found same u Q v is done above below = ⊎_elim
      (λ (e : Q.ended ≡ true).
      let late = found_after g.cell u v t x (of_pass s g.cell u v Q is inv.zero e (value_part (Q.k - (W Q + 2 * R Q)) Q.writes g.cell v done)) below le found in
      omega arith)
      (λ (e : Q.ended ≡ false).
      let y = inv.agrees.there u Q g.cell v (is, e) (value_longer (Q.k - (W Q + 2 * R Q)) Q.k Q.writes g.cell v (omega arith) done) in
      let z = found.between u y.0 y.1 below (omega arith) in cc)
      (cases_Bool Q.ended)

  -- the check of a write
  pub cross_write : (u : ℕ) → line ≤ u → (c : ℕ) (x : Version) → Finds (λ z. z ≡ Aborted) u (s.at c) x → x.read ≤ u
      → (t : ℕ) (P : Progress) (j : ℕ) (g : ReadEntry) → s.pass t ≡ Some P → nth P.reads j ≡ Some g → W P + R P + j < P.k → g.cell ≡ c → g.stamp < u → u < t → ⊥
  cross_write u le c x found low t P j g is at far same above below =
      let source = inv.sources t P j g is at in
      let from = subst (λ d. committed s d g.stamp ≡ Some g.value) same source.1 in
      let late = found_after c g.stamp g.value u x from above le found in
      ⊎_elim
      (λ (e : x.write ≡ g.stamp).
      let r = inv.agrees.stamped t P j g x is at (omega arith) (subst (λ d. s.at d g.stamp ≡ Some x) (sym same) (subst (λ w. s.at c w ≡ Some x) e found.here)) in
      omega arith)
      (λ (d : x.write ≡ g.stamp → ⊥).
      let stands = inv.agrees.stands c x.write x found.here found.done in
      let q = by_pass s c x.write x.value stands (omega arith) in
      let full = inv.full x.write q.0 q.1 q.2 in
      let all : checked q.0 c ≡ Some x.value = subst (λ ws. value_in ws c ≡ Some x.value) (sym (take_all (q.0.k - (W q.0 + 2 * R q.0)) q.0.writes (omega arith))) q.3 in
      let low = found.low in
      inv.crossing t x.write P q.0 j x.value g is q.1 at far (subst (λ d. checked q.0 d ≡ Some x.value) (sym same) all) (omega arith) (omega arith))
      (cases_eq x.write g.stamp)

  -- a search below a stamp that the keep line is not above always meets a version that counts
  pub never_lacks : (c f : ℕ) → c < s.cells → 0 < f → line ≤ f → Lacks (λ g. g ≡ Aborted) f (s.at c) → ⊥
  never_lacks c f in' pos le none =
      let a = cover c 0 0 f (grind arith) pos le in
      let z = none a.0 a.1.0 a.1.1 a.3 in cc

  -- a pending version's stamp is that of a pass that runs and has done a step
  pub pending_runs : (c t : ℕ) (x : Version) → s.at c t ≡ Some x → x.status ≡ Pending → (P : Progress) × Runs s t P × (0 < P.k)
  pending_runs c t x h still = grind arith
