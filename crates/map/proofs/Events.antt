-- Events, one call more at a time.
use Rattle.std.proofs.Common.{◌≡◌, ℕ, suc, ◌+◌, ◌<◌, List, [], ◌∷◌, ◌++◌, length, get_or, take, Result, sym, refl, ap, ◌∙◌, subst, arith}
use Rattle.words.specs.Outcome.{told}
use Rattle.words.specs.declared.refusal.Refusal.{Refusal}
use Rattle.rules.specs.declared.call.Call.{Call}
use Rattle.law.specs.History.{Event}
use Rattle.law.specs.Run.{Run}
use Rattle.tables.specs.Table.{Table}
use Rattle.map.specs.declared.plate.PlateMap.{PlateMap}
use Rattle.map.specs.Plate.{model_of}
use Rattle.map.specs.Events.{with_events, GoesOn}

events_more : (cs : List Call) (rs : List (Result ℕ Refusal)) (d : Call) (r : Result ℕ Refusal) (es : List Event) → length rs < length cs
    → with_events (take (suc (length rs)) cs) (rs ++ (r ∷ [])) es ≡ record { call = get_or cs (length rs) d; answer = told r } ∷ with_events (take (length rs) cs) rs es
events_more [] rs d r es h = absurd (omega arith)
events_more (c ∷ cs) [] d r es h = by cs
  where
    by : (cs : List Call) → with_events (take 0 cs) [] (record { call = c; answer = told r } ∷ es) ≡ record { call = c; answer = told r } ∷ es
    by [] = refl
    by (x ∷ xs) = refl
events_more (c ∷ cs) (a ∷ rs) d r es h = events_more cs rs d r (record { call = c; answer = told a } ∷ es) (omega arith)

events_push : (cs : List Call) (rs out : List (Result ℕ Refusal)) (i : ℕ) (d : Call) (r : Result ℕ Refusal) (es : List Event) → out ≡ rs ++ (r ∷ []) → length rs ≡ i → i < length cs
    → with_events (take (i + 1) cs) out es ≡ record { call = get_or cs i d; answer = told r } ∷ with_events (take i cs) rs es
events_push cs rs out i d r es is size lt =
    ap (λ rs. with_events (take (i + 1) cs) rs es) is ∙
    subst (λ i. i < length cs → with_events (take (i + 1) cs) (rs ++ (r ∷ [])) es ≡ record { call = get_or cs i d; answer = told r } ∷ with_events (take i cs) rs es) size
    (λ lt. ap (λ n. with_events (take n cs) (rs ++ (r ∷ [])) es) (let z : length rs + 1 ≡ suc (length rs) = omega arith in z) ∙ events_more cs rs d r es lt) lt

module _ {T : Type 0} (meaning : T → Table) (l m : PlateMap T) (cs : List Call) (rs : List (Result ℕ Refusal)) (i : ℕ) where
  -- runs that have gone on by the first i calls go on by the next
  pub goes_on_push : (n : PlateMap T) (out : List (Result ℕ Refusal)) (d : Call) (r : Result ℕ Refusal) → out ≡ rs ++ (r ∷ []) → length rs ≡ i → i < length cs
      → GoesOn meaning l (take i cs) rs m → GoesOn meaning m (get_or cs i d ∷ []) (r ∷ []) n → GoesOn meaning l (take (i + 1) cs) out n
  goes_on_push n out d r is size lt before next workers cells es run =
      subst (λ (events : List Event). Run workers cells events (meaning n.table.now) (model_of meaning n))
      (sym (events_push cs rs out i d r es is size lt)) (next workers cells _ (before workers cells es run))
