-- The position of an entry is that of the entry which the rules find, and which they replace.
use Rattle.std.proofs.Common.{◌≡◌, ℕ, zero, suc, ◌<◌, Bool, cond, eqb, ltb, List, [], ◌∷◌, length, get_or, set, Some, None, refl, arith}
use Rattle.std.specs.List.{position, position_or_len}
use Rattle.std.proofs.lemmas.Bool.Decides.{nat_tests}
use Rattle.std.proofs.lemmas.Grind.{common_steps}
use Rattle.rules.specs.declared.entry.WriteEntry.{WriteEntry}
use Rattle.rules.specs.Sets.{find, nth, replaced}

-- the entry at a place
pub nth_at : {E : Type 0} (es : List E) (i : ℕ) (d : E) → i < length es → nth es i ≡ Some (get_or es i d)
nth_at [] i d h = absurd (omega arith)
nth_at (e ∷ es) zero d h = refl
nth_at (e ∷ es) (suc i) d h = let r = nth_at es i d (omega arith) in grind (arith, nat_tests)

module _ {E : Type 0} (f : E → ℕ) (c : ℕ) where
  abbrev here : E → Bool
  here e = eqb (f e) c

  find_is : (es : List E) (d : E) → find f c es ≡ cond (ltb (position_or_len here es) (length es)) (Some (get_or es (position_or_len here es) d)) None
  find_is [] d = refl
  find_is (e ∷ es) d = grind (arith, nat_tests, common_steps, find_is es d)

  -- where none is found
  pub place_none : (es : List E) → position here es ≡ None → find f c es ≡ None
  place_none [] h = refl
  place_none (e ∷ es) h = grind (arith, nat_tests, find_is (e ∷ es) e)

  -- the first entry found stands at the position
  pub place_holds : (i : ℕ) (es : List E) (d : E) → position here es ≡ Some i → find f c es ≡ Some (get_or es i d)
  place_holds i es d h = grind (arith, nat_tests, find_is es d)

replaced_is : (e : WriteEntry) (ws : List WriteEntry) → position_or_len (λ (x : WriteEntry). eqb x.cell e.cell) ws < length ws → replaced e ws ≡ set ws (position_or_len (λ (x : WriteEntry). eqb x.cell e.cell) ws) e
replaced_is e [] h = absurd (omega arith)
replaced_is e (w ∷ ws) h = grind (arith, nat_tests, common_steps, replaced_is e ws)

pub place_replaces : (e : WriteEntry) (i : ℕ) (ws : List WriteEntry) → position (λ (x : WriteEntry). eqb x.cell e.cell) ws ≡ Some i → replaced e ws ≡ set ws i e
place_replaces e i ws h = grind (arith, nat_tests, replaced_is e ws)
