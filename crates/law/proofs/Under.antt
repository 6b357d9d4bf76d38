-- A cell's list by its stamps: the version that stands under a stamp, and how insert, raise, mark
-- and cut change it. The other proofs use these facts and do not look into a list.
use Rattle.std.proofs.Common.{◌≡◌, ℕ, Bool, false, cond, eqb, leb, List, [], ◌∷◌, is_some, Some, None, Option, refl, arith}
use Rattle.std.proofs.lemmas.Bool.Decides.{nat_tests}
use Rattle.words.specs.Status.{pending}
use Rattle.words.specs.declared.version.Version.{Version}
use Rattle.tables.specs.Versions.{holds, holds_pending, with_version, at_stamp, kept}
use Rattle.rules.specs.Sets.{find}

-- the version stamped t
abbrev pub under : ℕ → List Version → Option Version
under t vs = find (λ (v : Version). v.write) t vs

pub under_write : (t : ℕ) (vs : List Version) (x : Version) → under t vs ≡ Some x → x.write ≡ t
under_write t [] x h = grind arith
under_write t (v ∷ vs) x h = grind (arith, nat_tests, under_write t vs x)

-- insert
pub under_with : (t : ℕ) (v : Version) (vs : List Version) → under t (with_version v vs) ≡ cond (eqb v.write t) (Some v) (under t vs)
under_with t v [] = refl
under_with t v (w ∷ ws) = grind (arith, nat_tests, under_with t v ws)

-- raise and mark
abbrev pub change : (Version → Version) → Option Version → Option Version
change f None = None
change f (Some v) = Some (f v)

pub under_changed : (t s : ℕ) (f : Version → Version) → ((v : Version) → (f v).write ≡ v.write) → (vs : List Version) → under t (at_stamp s f vs) ≡ cond (eqb s t) (change f (under t vs)) (under t vs)
under_changed t s f same [] = grind arith
under_changed t s f same (v ∷ vs) = grind (arith, nat_tests, same v, under_changed t s f same vs)

-- cut
pub under_kept : (t s : ℕ) (vs : List Version) → under t (kept s vs) ≡ cond (leb s t) (under t vs) None
under_kept t s [] = grind arith
under_kept t s (v ∷ vs) = grind (arith, nat_tests, under_kept t s vs)

-- the tests of a list, by its stamps
abbrev pub some_pending : Option Version → Bool
some_pending None = false
some_pending (Some v) = pending v.status

pub holds_under : (t : ℕ) (vs : List Version) → holds t vs ≡ is_some (under t vs)
holds_under t [] = refl
holds_under t (v ∷ vs) = grind (arith, nat_tests, holds_under t vs)

pub pending_under : (t : ℕ) (vs : List Version) → holds_pending t vs ≡ some_pending (under t vs)
pending_under t [] = refl
pending_under t (v ∷ vs) = grind (arith, nat_tests, pending_under t vs)
