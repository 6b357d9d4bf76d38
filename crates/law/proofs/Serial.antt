-- From the invariant to the plain array: its value is the newest committed write, and committed
-- passes run again on it answer as they did.
use Rattle.std.proofs.Common.{◌≡◌, ℕ, ◌+◌, ◌-◌, ◌*◌, ◌<◌, ◌≤◌, true, cond, ltb, List, [], ◌∷◌, Some, None, sym, ap, ◌∙◌, ⊎_elim, arith}
use Rattle.std.proofs.lemmas.List.{take_all}
use Rattle.std.proofs.lemmas.Bool.{cases_lt}
use Rattle.std.proofs.lemmas.Bool.Decides.{nat_tests}
use Rattle.rules.specs.declared.entry.ReadEntry.{ReadEntry}
use Rattle.rules.specs.declared.entry.WriteEntry.{WriteEntry}
use Rattle.rules.specs.Sets.{nth}
use Rattle.law.specs.Plain.{Op, Pass, Fits, Replays, after, by_stamp, below}
use Rattle.law.proofs.State.{Progress, State, W, R, value_in, checked, committed, Inv}
use Rattle.law.proofs.Prefixes.{nth_short}
use Rattle.law.proofs.Cross.{by_pass}
use Rattle.law.proofs.Newest.{last_write, on, on_sorted, on_below, strict, on_strict, strict_below, wrote, array_none, array_newest}

-- what a pass did, beside its sets: it fits every array that has the values it read, and leaves what it wrote
pub record Local (ops : List Op) (rs : List ReadEntry) (ws : List WriteEntry) : Type 0 where
  pub fits : (a : ℕ → ℕ) → ((j : ℕ) (g : ReadEntry) → nth rs j ≡ Some g → g.value ≡ a g.cell) → Fits ops a
  pub last : (c : ℕ) → last_write ops c ≡ value_in ws c

-- the committed passes of the history are those of the state
pub record Recorded (s : State) (ps : List Pass) : Type 0 where
  pub bound : ℕ
  pub positive : 0 < bound
  pub sorted : strict bound (by_stamp ps) ≡ true
  pub here : (t : ℕ) (p : Pass) → on t ps ≡ Some p → (P : Progress) × (s.pass t ≡ Some P) × (P.ended ≡ true) × Local p.ops P.reads P.writes
  pub there : (t : ℕ) (P : Progress) → s.pass t ≡ Some P → P.ended ≡ true → (p : Pass) × (on t ps ≡ Some p)

-- the passes of ps stamped below f
abbrev pub Chosen : ℕ → List Pass → List Pass → Type 0
Chosen f ps qs = (t : ℕ) → on t qs ≡ cond (ltb t f) (on t ps) None

module _ (s : State) (line : ℕ) (inv : Inv s line) (ps : List Pass) (recorded : Recorded s ps) where
  -- what passes wrote is what is committed
  pub wrote_committed : (c t : ℕ) → 0 < t → wrote (on t ps) c ≡ committed s c t
  wrote_committed c t pos = grind arith

  -- the array after the passes below f
  pub array_is : (f n : ℕ) (qs : List Pass) → Chosen f ps qs → strict n qs ≡ true → (c w v : ℕ) → committed s c w ≡ Some v → w < f → ((t u : ℕ) → committed s c t ≡ Some u → t < f → t ≤ w) → after qs c ≡ v
  array_is f n qs chosen falls c w v is low new = ⊎_elim
      (λ (pos : 0 < w). array_newest n qs c w v falls
      (let a = chosen w in let b = wrote_committed c w pos in grind arith)
      (λ t u h. let r = written t u h in new t u r.2 r.0))
      (λ (nil : w ≤ 0). array_none n qs c falls (nothing nil) ∙ zero_value nil)
      (cases_lt 0 w)
    where
      written : (t u : ℕ) → wrote (on t qs) c ≡ Some u → (t < f) × (0 < t) × (committed s c t ≡ Some u)
      written t u h = grind arith

      nothing : w ≤ 0 → (t : ℕ) → wrote (on t qs) c ≡ None
      nothing nil t = let z = new t in grind (arith, nat_tests, written)

      zero_value : w ≤ 0 → 0 ≡ v
      zero_value nil = grind arith

  -- between what a committed pass read and the pass nothing is committed
  pub nothing_between : (t : ℕ) (P : Progress) (j : ℕ) (g : ReadEntry) → s.pass t ≡ Some P → P.ended ≡ true → nth P.reads j ≡ Some g → (w u : ℕ) → committed s g.cell w ≡ Some u → w < t → w ≤ g.stamp
  nothing_between t P j g h done n w u is low = ⊎_elim
      (λ (above : g.stamp < w).
      let q = by_pass s g.cell w u is (omega arith) in
      let full = inv.full w q.0 q.1 q.2 in
      let mine = inv.full t P h done in
      let short = nth_short P.reads j g n in
      let all : checked q.0 g.cell ≡ Some u = ap (λ ws. value_in ws g.cell) (take_all (q.0.k - (W q.0 + 2 * R q.0)) q.0.writes (omega arith)) ∙ q.3 in
      absurd (inv.crossing t w P q.0 j u g h q.1 n (omega arith) all above low))
      (λ below. below)
      (cases_lt g.stamp w)

  -- the passes run again, by their stamps, answer as they did
  replay : (n : ℕ) (qs : List Pass) → strict n qs ≡ true → Chosen n ps qs → Replays qs
  replay n [] falls chosen = tt
  replay n (p ∷ qs) falls chosen = (again (recorded.here p.stamp p first), replay p.stamp qs rest earlier)
    where
      rest : strict p.stamp qs ≡ true
      rest = grind arith

      low : p.stamp < n
      low = grind arith

      first : on p.stamp ps ≡ Some p
      first = grind arith

      earlier : Chosen p.stamp ps qs
      earlier t = grind (arith, nat_tests, on_strict)

      again : (P : Progress) × (s.pass p.stamp ≡ Some P) × (P.ended ≡ true) × Local p.ops P.reads P.writes → Fits p.ops (after qs)
      again (P, is, done, local) = local.fits (after qs) (λ j g n.
          let source = inv.sources p.stamp P j g is n in
          sym (array_is p.stamp p.stamp qs earlier rest g.cell g.stamp g.value source.1 source.0 (λ w u h lt. nothing_between p.stamp P j g is done n w u h lt)))

  -- the whole list by stamps, and the part of it below f
  whole : Chosen recorded.bound ps (by_stamp ps)
  whole t = grind (arith, nat_tests, on_sorted, on_strict)

  part : (f : ℕ) → Chosen f ps (below f (by_stamp ps))
  part f t = grind (arith, nat_tests, on_below, on_sorted)

  pub replays : Replays (by_stamp ps)
  replays = replay recorded.bound (by_stamp ps) recorded.sorted whole

  -- what is committed last is what the array holds after all passes, or after those below f
  pub newest_held : (c w v : ℕ) → committed s c w ≡ Some v → ((t u : ℕ) → committed s c t ≡ Some u → t ≤ w) → after (by_stamp ps) c ≡ v
  newest_held c w v is new = array_is recorded.bound recorded.bound (by_stamp ps) whole recorded.sorted c w v is low (λ t u h _. new t u h)
    where
      low : w < recorded.bound
      low = grind (arith, nat_tests, on_strict, on_sorted)

  pub newest_below_held : (f c w v : ℕ) → committed s c w ≡ Some v → w < f → ((t u : ℕ) → committed s c t ≡ Some u → t < f → t ≤ w) → after (below f (by_stamp ps)) c ≡ v
  newest_below_held f c w v is low new = array_is f recorded.bound (below f (by_stamp ps)) (part f) (strict_below recorded.bound f (by_stamp ps) recorded.sorted) c w v is low new
