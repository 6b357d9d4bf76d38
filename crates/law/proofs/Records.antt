-- What stays recorded of committed passes and of the reads of looks while passes run.
use Rattle.std.proofs.Common.{◌≡◌, ℕ, ◌+◌, ◌<◌, List, [], ◌∷◌, Some, None, Option, refl, subst, ⊎_elim, arith}
use Rattle.std.proofs.lemmas.Bool.{cases_eq}
use Rattle.std.proofs.lemmas.Bool.Decides.{nat_tests}
use Rattle.words.specs.declared.version.Version.{Version}
use Rattle.rules.specs.Model.{Model}
use Rattle.rules.specs.Stamps.{last_stamp}
use Rattle.law.specs.Plain.{Op, Pass}
use Rattle.law.specs.History.{Glance}
use Rattle.law.proofs.State.{Progress, State, committed, Runs}
use Rattle.law.proofs.Moves.{put_cases, not_ended}
use Rattle.law.proofs.Cuts.{with_versions}
use Rattle.law.proofs.Ends.{full_of, left}
use Rattle.law.proofs.Newest.{on_sorted, strict_wider, strict_placed}
use Rattle.law.proofs.Serial.{Local, Recorded}
use Rattle.law.proofs.Good.{AllGlanced}

-- the same committed writes, as far as the timestamp of some worker
pub glanced_same : (m : Model) (s s' : State) (w : ℕ) → w < m.workers → ((c u : ℕ) → u < last_stamp m w → committed s' c u ≡ committed s c u) → (gs : List Glance) → AllGlanced m s gs → AllGlanced m s' gs
glanced_same m s s' w within same [] a = tt
glanced_same m s s' w within same (g ∷ gs) (a, rest) = (
  record {
    from = a.from;
    is = grind arith;
    below = a.below;
    newest = grind arith;
    under = a.under;
  },
  glanced_same m s s' w within same gs rest,
)

-- other versions
pub recorded_versions : (s : State) (at : ℕ → ℕ → Option Version) (ps : List Pass) → Recorded s ps → Recorded (with_versions s at) ps
recorded_versions s at ps r = grind arith

-- a running pass ends
module _ (s : State) (t : ℕ) (P : Progress) (runs : Runs s t P) (at : ℕ → ℕ → Option Version) (ps : List Pass) (r : Recorded s ps) where
  pub recorded_aborted : Recorded (left s t None at) ps
  recorded_aborted = record {
    bound = r.bound;
    positive = r.positive;
    sorted = r.sorted;
    here = λ u p e. let q = r.here u p e in (q.0, grind (arith, nat_tests, not_ended), q.2, q.3);
    there = grind (arith, nat_tests, put_cases);
  }

  pub recorded_committed : (ops : List Op) → Local ops P.reads P.writes → Recorded (left s t (Some (full_of P)) at) (record { stamp = t; ops = ops } ∷ ps)
  recorded_committed ops local = record {
    bound = r.bound + t + 1;
    positive = omega arith;
    sorted = grind (arith, nat_tests, strict_placed, on_sorted, strict_wider);
    here = λ u q e. ⊎_elim
        (λ (z : u ≡ t). (full_of P, grind (arith, nat_tests), refl, subst (λ (q : Pass). Local q.ops P.reads P.writes) (let y : p ≡ q = grind (arith, nat_tests) in y) local))
        (λ (z : u ≡ t → ⊥). let o = r.here u q (grind (arith, nat_tests)) in (o.0, grind (arith, nat_tests), o.2, o.3))
        (cases_eq u t);
    there = λ u Q e done. ⊎_elim
        (λ a. (p, let z = a.0 in grind arith))
        (λ a. let o = r.there u Q a.1 done in let z = a.0 in let y = o.1 in (o.0, grind arith))
        (put_cases s.pass t (Some (full_of P)) u Q e);
  }
    where
      p : Pass
      p = record { stamp = t; ops = ops }
