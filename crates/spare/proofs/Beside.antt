-- A spare version put into a list by its stamp, and what each call then makes of the list: the same
-- as the call on the list below or on the spare version alone.
use Rattle.std.proofs.Common.{◌≡◌, ℕ, ◌+◌, ◌≤◌, Bool, true, cond, ◌||◌, eqb, leb, List, [], ◌∷◌, length, Some, None, filter, Option, refl, ap, arith}
use Rattle.std.proofs.lemmas.Bool.Decides.{nat_tests}
use Rattle.words.specs.Status.{pending}
use Rattle.words.specs.declared.version.Version.{Version}
use Rattle.words.specs.Version.{new_version}
use Rattle.tables.specs.Versions.{top, ordered, sinks, holds, holds_pending, with_version, at_stamp, stays, kept, cut_count}
use Rattle.tables.proofs.Cuts.{cut_counts}
use Rattle.tables.proofs.Lengths.{length_with}
use Rattle.spare.specs.Spare.{taken, room, stamped, kept_spare, lost, with_spare}

-- what a version put in answers for its own stamp, and leaves for others
pub holds_with : (s : ℕ) (v : Version) (vs : List Version) → holds s (with_version v vs) ≡ (eqb v.write s || holds s vs)
holds_with s v [] = refl
holds_with s v (w ∷ ws) = grind (arith, nat_tests, holds_with s v ws)

pub pending_with : (s : ℕ) (v : Version) (vs : List Version) → holds_pending s (with_version v vs) ≡ cond (eqb v.write s) (pending v.status) (holds_pending s vs)
pending_with s v [] = refl
pending_with s v (w ∷ ws) = grind (arith, nat_tests, pending_with s v ws)

-- two versions of different stamps can be put in in either order
with_with : (u v : Version) → (u.write ≡ v.write → ⊥) → (vs : List Version) → with_version u (with_version v vs) ≡ with_version v (with_version u vs)
with_with u v ne [] = grind (arith, nat_tests)
with_with u v ne (w ∷ ws) = grind (arith, nat_tests, with_with u v ne ws)

-- a change that keeps the stamp
module _ (f : Version → Version) (same : (v : Version) → (f v).write ≡ v.write) where
  change_spare : (s : ℕ) (v : Version) → v.write ≡ s → (vs : List Version) → at_stamp s f (with_version v vs) ≡ with_version (f v) vs
  change_spare s v e [] = grind (arith, nat_tests)
  change_spare s v e (w ∷ ws) = grind (arith, nat_tests, same v, change_spare s v e ws)

  change_below : (s : ℕ) (v : Version) → (v.write ≡ s → ⊥) → (vs : List Version) → at_stamp s f (with_version v vs) ≡ with_version v (at_stamp s f vs)
  change_below s v ne [] = grind (arith, nat_tests)
  change_below s v ne (w ∷ ws) = grind (arith, nat_tests, same w, change_below s v ne ws)

-- a cut, by whatever test; a version at or above a bound of the list goes before all that is kept
module _ (p : Version → Bool) (v : Version) where
  goes_first : (n : ℕ) (vs : List Version) → n ≤ v.write → ordered leb n vs ≡ true → with_version v (filter p vs) ≡ v ∷ filter p vs
  goes_first n [] le h = refl
  goes_first n (w ∷ ws) le h = grind (arith, nat_tests, goes_first w.write ws)

  cut_with : (n : ℕ) (vs : List Version) → ordered leb n vs ≡ true → filter p (with_version v vs) ≡ cond (p v) (with_version v (filter p vs)) (filter p vs)
  cut_with n [] h = grind (arith, nat_tests)
  cut_with n (w ∷ ws) h = grind (arith, nat_tests, cut_with w.write ws, goes_first w.write (w ∷ ws))

-- whether the spare version is stamped s
pub not_stamped : (s : ℕ) (v : Version) (o : Option Version) → Some v ≡ o → (v.write ≡ s → ⊥) → None ≡ stamped s o
not_stamped s v o is differs = grind (arith, nat_tests)

-- where the spare version is not stamped s, what is asked of s is asked of the list below
pub inserted_below : (s x : ℕ) (o : Option Version) → None ≡ stamped s o → (vs : List Version) → with_spare o (with_version (new_version s x) vs) ≡ with_version (new_version s x) (with_spare o vs)
inserted_below s x None other vs = refl
inserted_below s x (Some v) other vs = grind (arith, nat_tests, with_with v (new_version s x))

pub changed_below : (f : Version → Version) → ((v : Version) → (f v).write ≡ v.write) → (s : ℕ) (o : Option Version) → None ≡ stamped s o → (vs : List Version) → with_spare o (at_stamp s f vs) ≡ at_stamp s f (with_spare o vs)
changed_below f same s None other vs = refl
changed_below f same s (Some v) other vs = grind (arith, nat_tests, change_below f same s v)

-- where it is stamped s, it is the first version of that stamp
pub changed_spare : (f : Version → Version) → ((v : Version) → (f v).write ≡ v.write) → (s : ℕ) (v : Version) (o : Option Version) → Some v ≡ stamped s o → (vs : List Version) → with_spare (Some (f v)) vs ≡ at_stamp s f (with_spare o vs)
changed_spare f same s v None is vs = grind arith
changed_spare f same s v (Some w) is vs = grind (arith, nat_tests, change_spare f same s w)

-- a cut of the list is a cut of the list below and of the spare place
pub cut_both : (s : ℕ) (o : Option Version) (vs : List Version) → sinks vs ≡ true → with_spare (kept_spare s o) (kept s vs) ≡ kept s (with_spare o vs)
cut_both s None vs h = refl
cut_both s (Some v) vs h = grind (arith, nat_tests, cut_with (stays s) v top vs h)

pub length_both : (o : Option Version) (vs : List Version) → length (with_spare o vs) ≡ length vs + taken o
length_both None vs = omega arith
length_both (Some v) vs = length_with v vs

pub count_both : (s : ℕ) (o : Option Version) (vs : List Version) → sinks vs ≡ true → cut_count s (with_spare o vs) ≡ cut_count s vs + lost s o
count_both s None vs h = omega arith
count_both s (Some v) vs h =
    grind (arith, nat_tests, cut_counts s vs, cut_counts s (with_version v vs), length_with v vs, length_both (kept_spare s (Some v)) (kept s vs), ap length (cut_both s (Some v) vs h))

-- the room of a place after a cut
pub room_after : (s : ℕ) (o : Option Version) → room (kept_spare s o) ≡ room o + lost s o
room_after s None = refl
room_after s (Some v) = grind (arith, nat_tests)

-- a place with a version has no room
pub no_room : (s : ℕ) (v : Version) (o : Option Version) → Some v ≡ stamped s o → room o ≡ 0
no_room s v None is = grind arith
no_room s v (Some w) is = refl
