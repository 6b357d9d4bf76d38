-- Where a stamp stands in a list, or would stand, and what that tells of the calls.
use Rattle.std.proofs.Common.{◌≡◌, ℕ, suc, ◌+◌, ◌&&◌, leb, ltb, eqb, List, [], ◌∷◌, length, get_or, set, position, is_some, Some, refl, ap, ◌∙◌, arith}
use Rattle.std.specs.List.{insert, prefix_len, position_or_len}
use Rattle.std.specs.Option.{unwrap_or}
use Rattle.std.proofs.lemmas.Bool.Decides.{nat_tests}
use Rattle.std.proofs.lemmas.Option.{cond_some}
use Rattle.words.specs.Status.{pending}
use Rattle.words.specs.declared.version.Version.{Version}
use Rattle.words.specs.Version.{absent}
use Rattle.tables.specs.Versions.{holds, holds_pending, with_version, at_stamp}

-- the first that is not stamped above a stamp stands behind all that are, up to it
pub first_is : (s : ℕ) (vs : List Version) → unwrap_or (position (λ v. leb v.write s) vs) (length vs) ≡ prefix_len (λ v. ltb s v.write) vs
first_is s [] = refl
first_is s (v ∷ vs) = grind (arith, nat_tests, first_is s vs)

-- putting a version in by its stamp is putting it in behind those that are stamped above it
pub with_version_is : (v : Version) (vs : List Version) → with_version v vs ≡ insert vs (prefix_len (λ w. ltb v.write w.write) vs) v
with_version_is v [] = refl
with_version_is v (w ∷ ws) = grind (arith, nat_tests, later, with_version_is v ws)
  where
    later : (i : ℕ) → insert (w ∷ ws) (1 + i) v ≡ w ∷ insert ws i v
    later i = let e : 1 + i ≡ suc i = omega arith in ap (λ k. insert (w ∷ ws) k v) e

-- where the first version stamped s stands, or the length
abbrev first : ℕ → List Version → ℕ
first s vs = position_or_len (λ v. eqb v.write s) vs

-- a stamp is held where it is found
pub held_is : (s : ℕ) (vs : List Version) → holds s vs ≡ is_some (position (λ v. eqb v.write s) vs)
held_is s [] = refl
held_is s (v ∷ vs) = grind (arith, nat_tests, held_is s vs)

-- and it is pending where the version found is
pub pending_is : (s : ℕ) (vs : List Version) → holds_pending s vs ≡ (holds s vs && pending (get_or vs (first s vs) absent).status)
pending_is s [] = refl
pending_is s (v ∷ vs) = grind (arith, nat_tests, pending_is s vs)

-- a change of the first version stamped s is a change where it stands
pub changed_is : (s : ℕ) (f : Version → Version) (vs : List Version) (i : ℕ) → position (λ v. eqb v.write s) vs ≡ Some i → at_stamp s f vs ≡ set vs i (f (get_or vs i absent))
changed_is s f vs i found = go vs ∙ ap (λ k. set vs k (f (get_or vs k absent))) (cond_some _ _ _ found).1
  where
    go : (vs : List Version) → at_stamp s f vs ≡ set vs (first s vs) (f (get_or vs (first s vs) absent))
    go [] = refl
    go (v ∷ vs) = grind (arith, nat_tests, go vs)
