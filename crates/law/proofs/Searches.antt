-- What the searches along a cell's list find, by stamps, where stamps fall.
use Rattle.std.proofs.Common.{◌≡◌, ℕ, ◌^◌, ◌<◌, ◌≤◌, Bool, true, false, cond, ltb, ◌⊎◌, List, [], ◌∷◌, length, Some, None, Option, refl, inl, inr, arith, ltb-true}
use Rattle.std.proofs.lemmas.Bool.Decides.{nat_tests}
use Rattle.std.proofs.lemmas.List.{take_all}
use Rattle.words.specs.Outcome.{Outcome, accepted, refused, refuse}
use Rattle.words.specs.declared.refusal.Refusal.TheVariants.{Wait}
use Rattle.words.specs.declared.status.Status.{Status}
use Rattle.words.specs.declared.status.Status.TheVariants.{Pending, Committed, Aborted}
use Rattle.words.specs.declared.version.Version.{Version}
use Rattle.tables.specs.Versions.{top, ordered, sinks, falls}
use Rattle.rules.specs.Search.{reach, by_status, visible, newest, newest_below}
use Rattle.law.proofs.Under.{under}

-- nothing stands under a stamp that is not below the first
pub none_above : (n t : ℕ) (vs : List Version) → ordered ltb n vs ≡ true → n ≤ t → under t vs ≡ None
none_above n t [] h le = refl
none_above n t (v ∷ vs) h le = grind (arith, nat_tests, none_above v.write t vs)

below_first : (n t : ℕ) (vs : List Version) (y : Version) → ordered ltb n vs ≡ true → under t vs ≡ Some y → t < n
below_first n t [] y h e = grind arith
below_first n t (v ∷ vs) y h e = grind (arith, nat_tests, below_first v.write t vs y)

falls_tail : (v : Version) (vs : List Version) → falls (v ∷ vs) ≡ true → falls vs ≡ true
falls_tail v [] h = refl
falls_tail v (w ∷ ws) h = grind arith

ordered_weaker : (m n : ℕ) (vs : List Version) → m ≤ n → ordered ltb m vs ≡ true → ordered ltb n vs ≡ true
ordered_weaker m n [] le h = refl
ordered_weaker m n (v ∷ vs) le h = grind arith

-- a list by its stamps
abbrev pub stamps : List Version → ℕ → Option Version
stamps vs t = under t vs

-- a search below s finds x: a committed version, and each newer one below s is passed over
pub record Finds (passed : Status → Type 0) (s : ℕ) (at : ℕ → Option Version) (x : Version) : Type 0 where
  pub here : at x.write ≡ Some x
  pub low : x.write < s
  pub done : x.status ≡ Committed
  pub between : (t : ℕ) (y : Version) → at t ≡ Some y → t < s → x.write < t → passed y.status

-- no version below s but such as are passed over
abbrev pub Lacks : (Status → Type 0) → ℕ → (ℕ → Option Version) → Type 0
Lacks passed s at = (t : ℕ) (y : Version) → at t ≡ Some y → t < s → passed y.status

first_found : (passed : Status → Type 0) (s : ℕ) (v : Version) (vs : List Version) → ordered ltb v.write vs ≡ true → v.write < s → v.status ≡ Committed → Finds passed s (stamps (v ∷ vs)) v
first_found passed s v vs h lt e = grind (arith, nat_tests, below_first)

first_lacks : (passed : Status → Type 0) (s : ℕ) (v : Version) (vs : List Version) → (v.write < s → passed v.status) → Lacks passed s (stamps vs) → Lacks passed s (stamps (v ∷ vs))
first_lacks passed s v vs skips ih t y u below = grind arith

first_passed : (passed : Status → Type 0) (s : ℕ) (v : Version) (vs : List Version) (x : Version) → ordered ltb v.write vs ≡ true → (v.write < s → passed v.status) → Finds passed s (stamps vs) x → Finds passed s (stamps (v ∷ vs)) x
first_passed passed s v vs x h skips ih = grind (arith, nat_tests, below_first)

-- the visible version is passed over by aborted ones alone; a pending one is met, with its stamp
abbrev pub VisibleSays : ℕ → (ℕ → Option Version) → Outcome Version → Type 0
VisibleSays s at (accepted x) = Finds (λ g. g ≡ Aborted) s at x
VisibleSays s at (refused n d) =
    ((n ≡ 6) × (d < s) × ((y : Version) × (at d ≡ Some y) × (y.status ≡ Pending))) ⊎ ((n ≡ 9) × Lacks (λ g. g ≡ Aborted) s at)

visible_passed : (s : ℕ) (v : Version) (vs : List Version) (r : Outcome Version) → ordered ltb v.write vs ≡ true → (v.write < s → v.status ≡ Aborted) → VisibleSays s (stamps vs) r → VisibleSays s (stamps (v ∷ vs)) r
visible_passed s v vs (accepted x) h skips ih = first_passed (λ g. g ≡ Aborted) s v vs x h skips ih
visible_passed s v vs (refused n d) h skips (inl (e, low, (y, here, still))) =
    inl (e, low, (y, grind (arith, nat_tests, below_first v.write d vs y), still))
visible_passed s v vs (refused n d) h skips (inr (e, none)) = inr (e, first_lacks (λ g. g ≡ Aborted) s v vs skips none)

pub visible_says : (s : ℕ) (vs : List Version) → falls vs ≡ true → VisibleSays s (stamps vs) (visible s vs)
visible_says s [] h = inr (refl, λ t y u. absurd (grind arith))
visible_says s (v ∷ vs) h = by (ltb v.write s) refl v.status refl (visible_says s vs (falls_tail v vs h))
  where
    by : (b : Bool) → ltb v.write s ≡ b → (g : Status) → v.status ≡ g → VisibleSays s (stamps vs) (visible s vs) → VisibleSays s (stamps (v ∷ vs)) (cond b (by_status g (refuse (Wait v.write)) (accepted v) (visible s vs)) (visible s vs))
    by false b g e ih = grind (arith, nat_tests, visible_passed)
    by true b Pending e ih = grind arith
    by true b Committed e ih = first_found (λ g. g ≡ Aborted) s v vs h (ltb-true v.write s b) e
    by true b Aborted e ih = visible_passed s v vs (visible s vs) h (λ _. e) ih

-- the newest committed version below s is passed over by all that are not committed
abbrev pub Uncommitted : Status → Type 0
Uncommitted g = g ≡ Committed → ⊥

abbrev pub NewestSays : ℕ → (ℕ → Option Version) → Outcome Version → Type 0
NewestSays s at (accepted x) = Finds Uncommitted s at x
NewestSays s at (refused n d) = Lacks Uncommitted s at

newest_passed : (s : ℕ) (v : Version) (vs : List Version) (r : Outcome Version) → ordered ltb v.write vs ≡ true → (v.write < s → Uncommitted v.status) → NewestSays s (stamps vs) r → NewestSays s (stamps (v ∷ vs)) r
newest_passed s v vs (accepted x) h skips ih = first_passed Uncommitted s v vs x h skips ih
newest_passed s v vs (refused n d) h skips ih = first_lacks Uncommitted s v vs skips ih

pub newest_says : (s : ℕ) (vs : List Version) → falls vs ≡ true → NewestSays s (stamps vs) (newest_below s vs)
newest_says s [] h = λ t y u. absurd (grind arith)
newest_says s (v ∷ vs) h = by (ltb v.write s) refl v.status refl (newest_says s vs (falls_tail v vs h))
  where
    by : (b : Bool) → ltb v.write s ≡ b → (g : Status) → v.status ≡ g → NewestSays s (stamps vs) (newest_below s vs) → NewestSays s (stamps (v ∷ vs)) (cond b (by_status g (newest_below s vs) (accepted v) (newest_below s vs)) (newest_below s vs))
    by false b g e ih = grind (arith, nat_tests, newest_passed)
    by true b Pending e ih = newest_passed s v vs (newest_below s vs) h (λ _ c. cc) ih
    by true b Committed e ih = first_found Uncommitted s v vs h (ltb-true v.write s b) e
    by true b Aborted e ih = newest_passed s v vs (newest_below s vs) h (λ _ c. cc) ih

-- the newest committed version is the newest below a bound of the list
pub newest_bounded : (s : ℕ) (vs : List Version) → ordered ltb s vs ≡ true → newest vs ≡ newest_below s vs
newest_bounded s [] h = refl
newest_bounded s (v ∷ vs) h = grind (arith, nat_tests, newest_bounded s vs, ordered_weaker v.write s vs)

-- a list that falls and fits 64 bits is within reach of every search
pub length_bound : (n : ℕ) (vs : List Version) → ordered ltb n vs ≡ true → length vs ≤ n
length_bound n [] h = omega arith
length_bound n (v ∷ vs) h = let r = length_bound v.write vs (grind arith) in grind arith

pub all_reached : (vs : List Version) → sinks vs ≡ true → falls vs ≡ true → reach vs ≡ vs
all_reached [] low h = refl
all_reached (v ∷ vs) low h = take_all (2 ^ 64) (v ∷ vs) (let r = length_bound v.write vs h in let z : v.write ≤ top = grind (arith, nat_tests) in omega arith)
