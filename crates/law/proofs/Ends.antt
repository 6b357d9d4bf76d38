-- commit and abort: a running pass ends, and its versions with it.
use Rattle.std.proofs.Common.{◌≡◌, ℕ, ◌+◌, ◌*◌, true, cond, eqb, Some, None, Option, sym, refl, ◌∙◌, subst, inl, inr, ⊎_elim, arith}
use Rattle.std.proofs.lemmas.List.{take_all}
use Rattle.std.proofs.lemmas.Bool.{cases_eq}
use Rattle.std.proofs.lemmas.Bool.Decides.{nat_tests}
use Rattle.words.specs.Status.{ended}
use Rattle.words.specs.declared.status.Status.TheVariants.{Pending, Committed}
use Rattle.words.specs.declared.status.Ending.{Ending}
use Rattle.words.specs.declared.status.Ending.TheVariants.{Commit, Abort}
use Rattle.words.specs.declared.version.Version.{Version}
use Rattle.tables.specs.Table.{put}
use Rattle.tables.specs.Versions.{marked}
use Rattle.rules.specs.Sets.{nth}
use Rattle.law.proofs.Under.{change}
use Rattle.law.proofs.State.{Progress, State, W, R, value_in, installed, committed, committed_by, Runs, Stands, Agrees, Inv}

-- the pass once it is committed
abbrev pub full_of : Progress → Progress
full_of P = record { reads = P.reads; writes = P.writes; k = P.k; ended = true }

-- the pass stamped t becomes the one given, if any, and the versions are at
abbrev pub left : State → ℕ → Option Progress → (ℕ → ℕ → Option Version) → State
left s t next at = record { cells = s.cells; pass = put s.pass t next; at = at }

pub committed_left : (s : State) (t : ℕ) (next : Option Progress) (at : ℕ → ℕ → Option Version) (c w : ℕ) → (w ≡ t → ⊥) → committed (left s t next at) c w ≡ committed s c w
committed_left s t next at c w d = grind arith

module _ (s : State) (line : ℕ) (inv : Inv s line) (t : ℕ) (P : Progress) (runs : Runs s t P) (how : Ending) (next : Option Progress)
    (at : ℕ → ℕ → Option Version) (ending : (c u : ℕ) → at c u ≡ cond (eqb t u) (change (marked how) (s.at c u)) (s.at c u)) where
  -- every version of the pass is pending, and of a write it has installed
  pub its_version : (c : ℕ) (x : Version) → s.at c t ≡ Some x → (x.status ≡ Pending) × (installed P c ≡ Some x.value)
  its_version c x h = let n = inv.agrees.missing t P c runs in let y = inv.agrees.there t P c in grind arith

  at_here : (c : ℕ) (x : Version) → s.at c t ≡ Some x → at c t ≡ Some (marked how x)
  at_here c x h = let z = ending c t in grind arith

  committed_here : (c : ℕ) → committed (left s t next at) c t ≡ committed_by next c
  committed_here c = grind arith

  committed_on : (c w v : ℕ) → committed s c w ≡ Some v → committed (left s t next at) c w ≡ Some v
  committed_on c w v h = grind arith

  module _ (new_is : (Q : Progress) → next ≡ Some Q → (Q ≡ full_of P) × (P.k ≡ 2 * (W P + R P))) (over : ended how ≡ Pending → ⊥)
      (yes : (c : ℕ) (x : Version) → s.at c t ≡ Some x → ended how ≡ Committed → committed_by next c ≡ Some x.value)
      (gives : (c v : ℕ) → committed_by next c ≡ Some v → (ended how ≡ Committed) × ((x : Version) × (s.at c t ≡ Some x))) where
    -- who runs afterwards ran before, under another stamp
    runs_left : (u : ℕ) (Q : Progress) → Runs (left s t next at) u Q → (u ≡ t → ⊥) × Runs s u Q
    runs_left u Q r = grind arith

    stands_on : (c u : ℕ) → Stands s c u → Stands (left s t next at) c u
    stands_on c u (x, h, done) = grind arith

    ends_agrees : Agrees (left s t next at) line
    ends_agrees = record {
      stands = grind arith;
      owned = grind arith;
      there = grind arith;
      missing = grind arith;
      covered = λ c w v h. ⊎_elim
          (λ (q : w ≡ t). let g = gives c v (sym (committed_here c) ∙ subst (λ w. committed (left s t next at) c w ≡ Some v) q h) in
          inl (subst (λ w. Stands (left s t next at) c w) (sym q) (marked how g.1.0, at_here c g.1.0 g.1.1, g.0)))
          (λ d. ⊎_elim
          (λ a. inl (stands_on c w a))
          (λ a. inr (a.0, stands_on c a.0 a.1, a.2, a.3))
          (inv.agrees.covered c w v (sym (committed_left s t next at c w d) ∙ h)))
          (cases_eq w t);
      stamped = grind arith;
    }

    -- a pass afterwards, as it was before
    as_before : (u : ℕ) (Q : Progress) → (left s t next at).pass u ≡ Some Q → (O : Progress) × (s.pass u ≡ Some O) × (O.reads ≡ Q.reads) × (O.writes ≡ Q.writes) × (O.k ≡ Q.k)
    as_before u Q h = grind arith

    pub ends : Inv (left s t next at) line
    ends = record {
      agrees = ends_agrees;
      zero = grind arith;
      apart = grind arith;
      sources = λ u Q j g h n. let o = as_before u Q h in let r = inv.sources u o.0 j g o.1 (subst (λ rs. nth rs j ≡ Some g) (sym o.2) n) in (r.0, committed_on g.cell g.stamp g.value r.1);
      crossing = grind arith;
      full = grind arith;
      line_below = λ u Q r. inv.line_below u Q (runs_left u Q r).1;
    }

-- commit: the pass has done all its steps
module _ (s : State) (line : ℕ) (inv : Inv s line) (t : ℕ) (P : Progress) (runs : Runs s t P)
    (at : ℕ → ℕ → Option Version) where
  pub commits : P.k ≡ 2 * (W P + R P) → ((c u : ℕ) → at c u ≡ cond (eqb t u) (change (marked Commit) (s.at c u)) (s.at c u)) → Inv (left s t (Some (full_of P)) at) line
  commits all ending = ends s line inv t P runs Commit (Some (full_of P)) at ending
      (λ Q e. (cc, all))
      (λ e. cc)
      (λ c x h _. sym (whole c) ∙ (its_version s line inv t P runs Commit (Some (full_of P)) at ending c x h).1)
      (λ c v h. let x = inv.agrees.there t P c v runs (whole c ∙ h) in (refl, (x.0, x.1)))
    where
      whole : (c : ℕ) → installed P c ≡ value_in P.writes c
      whole c = grind (arith, nat_tests, take_all)

  pub aborts : ((c u : ℕ) → at c u ≡ cond (eqb t u) (change (marked Abort) (s.at c u)) (s.at c u)) → Inv (left s t None at) line
  aborts ending = ends s line inv t P runs Abort None at ending
      (λ Q e. absurd (grind arith))
      (λ e. cc)
      (λ c x h e. absurd cc)
      (λ c v h. absurd (grind arith))
