-- The floor and the keep line are greatest lower bounds: of the last timestamps, and of these and the
-- floors of open looks.
use Rattle.std.proofs.Common.{◌≡◌, ℕ, zero, suc, ◌-◌, ◌<◌, ◌≤◌, sym, refl, ◌∙◌, subst, ⊎_elim, arith}
use Rattle.std.proofs.lemmas.Bool.{cases_eq, cases_lt}
use Rattle.std.proofs.lemmas.Bool.Decides.{nat_tests}
use Rattle.rules.specs.Model.{Stage, idle, open', sealed, looking, Model}
use Rattle.rules.specs.Stamps.{last_stamp, least, floor, look_floor, keep_line}

least_lower : (f : ℕ → ℕ) (n j : ℕ) → j ≤ n → least f n ≤ f j
least_lower f zero j h = grind arith
least_lower f (suc n) j h = ⊎_elim
    (λ (e : j ≡ suc n). subst (λ j. least f (suc n) ≤ f j) (sym e) (omega arith))
    (λ d. let r = least_lower f n j (omega arith) in omega arith)
    (cases_eq j (suc n))

least_greatest : (f : ℕ → ℕ) (n b : ℕ) → ((j : ℕ) → j ≤ n → b ≤ f j) → b ≤ least f n
least_greatest f zero b h = h 0 (omega arith)
least_greatest f (suc n) b h =
    let a = least_greatest f n b (λ j l. h j (omega arith)) in
    let c = h (suc n) (omega arith) in
    omega arith

pub least_same : (f g : ℕ → ℕ) (n : ℕ) → ((j : ℕ) → j ≤ n → f j ≡ g j) → least f n ≡ least g n
least_same f g zero h = h 0 (omega arith)
least_same f g (suc n) h = let a = least_same f g n (λ j l. h j (omega arith)) in let b = h (suc n) (omega arith) in omega arith

least_met : (f : ℕ → ℕ) (n : ℕ) → (j : ℕ) × (j ≤ n) × (least f n ≡ f j)
least_met f zero = (0, omega arith, refl)
least_met f (suc n) = let r = least_met f n in ⊎_elim
    (λ (l : f (suc n) < least f n). (suc n, omega arith, let z : least f (suc n) ≡ f (suc n) = omega arith in z))
    (λ (l : least f n ≤ f (suc n)). (r.0, let z = r.1 in omega arith, let z : least f (suc n) ≡ least f n = omega arith in z ∙ r.2))
    (cases_lt (f (suc n)) (least f n))

module _ (m : Model) (some : 0 < m.workers) where
  pub floor_lower : (w : ℕ) → w < m.workers → floor m ≤ last_stamp m w
  floor_lower w h = least_lower (last_stamp m) (m.workers - 1) w (omega arith)

  pub floor_above : (n : ℕ) → ((w : ℕ) → w < m.workers → n < last_stamp m w) → n < floor m
  floor_above n h = grind (arith, nat_tests, least_greatest)

  pub floor_met : (w : ℕ) × (w < m.workers) × (floor m ≡ last_stamp m w)
  floor_met = let r = least_met (last_stamp m) (m.workers - 1) in grind (arith, nat_tests)

  pub line_floor : keep_line m ≤ floor m
  line_floor = omega arith

  pub line_lower : (w : ℕ) → w < m.workers → keep_line m ≤ last_stamp m w
  line_lower w h = grind (arith, nat_tests, floor_lower)

  pub line_look : (w f : ℕ) → w < m.workers → (m.worker w).stage ≡ looking f → keep_line m ≤ f
  line_look w f h e =
      let a = least_lower (λ w. look_floor (m.worker w).stage (floor m)) (m.workers - 1) w (omega arith) in
      let b = subst (λ g. least (λ w. look_floor (m.worker w).stage (floor m)) (m.workers - 1) ≤ look_floor g (floor m)) e a in
      omega arith

  -- what is not above any last timestamp nor any floor of an open look is not above the keep line
  pub line_greatest : (n : ℕ) → ((w : ℕ) → w < m.workers → n ≤ last_stamp m w) → ((w f : ℕ) → w < m.workers → (m.worker w).stage ≡ looking f → n ≤ f) → n ≤ keep_line m
  line_greatest n stamps looks =
      let low : n ≤ floor m = least_greatest (last_stamp m) (m.workers - 1) n (λ w h. stamps w (omega arith)) in
      let each = least_greatest (λ w. look_floor (m.worker w).stage (floor m)) (m.workers - 1) n (λ w h. one (m.worker w).stage w (omega arith) refl low) in
      omega arith
    where
      one : (g : Stage) (w : ℕ) → w < m.workers → (m.worker w).stage ≡ g → n ≤ floor m → n ≤ look_floor g (floor m)
      one idle w h e low = low
      one (open' rs ws) w h e low = low
      one (sealed rs ws k) w h e low = low
      one (looking f) w h e low = looks w f h e
