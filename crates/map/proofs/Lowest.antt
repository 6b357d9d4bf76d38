-- A loop that keeps the lesser finds the least.
use Rattle.std.proofs.Common.{◌≡◌, ℕ, zero, suc, ◌+◌, ◌-◌, ◌<◌, ◌≤◌, min, List, [], ◌∷◌, length, take, Some, None, sym, refl, ap, ◌∙◌, arith}
use Rattle.std.proofs.lemmas.List.{length-take}
use Rattle.std.proofs.lemmas.Bool.Decides.{nat_tests}
use Rattle.rules.specs.Model.{Stage, idle, open', sealed, looking, Worker}
use Rattle.rules.specs.Stamps.{least, look_floor}
use Rattle.law.proofs.Lines.{least_same}
use Rattle.workers.specs.Shape.{looking_from}
use Rattle.map.specs.Plate.{seated}

-- the least of b and of f below n
abbrev pub lowest : (ℕ → ℕ) → ℕ → ℕ → ℕ
lowest f b zero = b
lowest f b (suc n) = min (lowest f b n) (f n)

lowest_least : (f : ℕ → ℕ) (b n : ℕ) → lowest f b (suc n) ≡ min b (least f n)
lowest_least f b zero = refl
lowest_least f b (suc n) = let r = lowest_least f b n in omega arith

pub lowest_all : (f : ℕ → ℕ) (b n : ℕ) → 0 < n → lowest f b n ≡ min b (least f (n - 1))
lowest_all f b zero h = absurd (omega arith)
lowest_all f b (suc n) h = lowest_least f b n ∙ ap (λ k. min b (least f k)) (let z : n ≡ suc n - 1 = omega arith in z)

pub lowest_next : (f : ℕ → ℕ) (b n x : ℕ) → x ≡ f n → min (lowest f b n) x ≡ lowest f b (n + 1)
lowest_next f b n x e = ap (min (lowest f b n)) e ∙ ap (lowest f b) (let z : suc n ≡ n + 1 = omega arith in z)

lowest_bound : (f : ℕ → ℕ) (b n : ℕ) → lowest f b n ≤ b
lowest_bound f b zero = omega arith
lowest_bound f b (suc n) = let r = lowest_bound f b n in omega arith

pub lowest_met : (f : ℕ → ℕ) (b n : ℕ) → least f n ≤ f 0
lowest_met f b zero = omega arith
lowest_met f b (suc n) = let r = lowest_met f b n in omega arith

-- a worker that does not look keeps the line
not_looking : (g : Stage) (b : ℕ) → looking_from g ≡ None → look_floor g b ≡ b
not_looking idle b h = refl
not_looking (open' rs ws) b h = refl
not_looking (sealed rs ws k) b h = refl
not_looking (looking f) b h = absurd (let z : ◌≡◌ {A = ℕ} 0 1 = cc in omega arith)

is_looking : (g : Stage) (b f : ℕ) → looking_from g ≡ Some f → look_floor g b ≡ f
is_looking idle b f h = absurd (let z : ◌≡◌ {A = ℕ} 0 1 = cc in omega arith)
is_looking (open' rs ws) b f h = absurd (let z : ◌≡◌ {A = ℕ} 0 1 = cc in omega arith)
is_looking (sealed rs ws k) b f h = absurd (let z : ◌≡◌ {A = ℕ} 0 1 = cc in omega arith)
is_looking (looking g) b f h = let z : g ≡ f = cc in z

-- one turn over the looks
pub keep_look : (ws : List Worker) (b i : ℕ) (x : Worker) (a f r : ℕ) → x ≡ seated ws i → a ≡ lowest (λ v. look_floor (seated ws v).stage b) b i → looking_from x.stage ≡ Some f → r ≡ min a f
    → r ≡ lowest (λ v. look_floor (seated ws v).stage b) b (i + 1)
keep_look ws b i x a f r here inv look is =
    is ∙ ap (λ a. min a f) inv ∙ lowest_next (λ v. look_floor (seated ws v).stage b) b i f (sym (ap (λ (y : Worker). look_floor y.stage b) (sym here) ∙ is_looking x.stage b f look))

pub keep_rest : (ws : List Worker) (b i : ℕ) (x : Worker) (a r : ℕ) → x ≡ seated ws i → a ≡ lowest (λ v. look_floor (seated ws v).stage b) b i → looking_from x.stage ≡ None → r ≡ a
    → r ≡ lowest (λ v. look_floor (seated ws v).stage b) b (i + 1)
keep_rest ws b i x a r here inv look is =
    let low = lowest_bound (λ v. look_floor (seated ws v).stage b) b i in
    let z : lowest (λ v. look_floor (seated ws v).stage b) b i ≡ min (lowest (λ v. look_floor (seated ws v).stage b) b i) b = omega arith in
    is ∙ inv ∙ z ∙ lowest_next (λ v. look_floor (seated ws v).stage b) b i b (sym (ap (λ (y : Worker). look_floor y.stage b) (sym here) ∙ not_looking x.stage b look))

-- the least over the workers that are in use, of all places
seated_take : (n : ℕ) (xs : List Worker) (w : ℕ) → w < n → seated (take n xs) w ≡ seated xs w
seated_take zero xs w h = absurd (omega arith)
seated_take (suc n) [] w h = refl
seated_take (suc n) (x ∷ xs) zero h = refl
seated_take (suc n) (x ∷ xs) (suc w) h = let r = seated_take n xs w (omega arith) in grind (arith, nat_tests)

pub least_used : (F : Worker → ℕ → ℕ) (n : ℕ) (xs : List Worker) → n ≤ length xs → 0 < n → least (λ w. F (seated (take n xs) w) w) (length (take n xs) - 1) ≡ least (λ w. F (seated xs w) w) (n - 1)
least_used F n xs le pos =
    let z : length (take n xs) ≡ n = length-take n xs ∙ omega arith in
    ap (λ k. least (λ w. F (seated (take n xs) w) w) (k - 1)) z ∙ least_same (λ w. F (seated (take n xs) w) w) (λ w. F (seated xs w) w) (n - 1) (λ j l. ap (λ (q : Worker). F q j) (seated_take n xs j (omega arith)))
