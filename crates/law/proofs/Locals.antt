-- An open pass: its operations beside its sets, read by read and write by write.
use Rattle.std.proofs.Common.{◌≡◌, ℕ, zero, suc, ◌-◌, Bool, true, false, cond, eqb, ◌⊎◌, List, [], ◌∷◌, ◌++◌, length, take, Some, None, Option, sym, refl, ap, ◌∙◌, inl, inr, ⊎_elim, arith}
use Rattle.std.proofs.lemmas.Bool.{cases_Bool}
use Rattle.std.proofs.lemmas.Bool.Decides.{nat_tests}
use Rattle.rules.specs.declared.entry.ReadEntry.{ReadEntry}
use Rattle.rules.specs.declared.entry.WriteEntry.{WriteEntry}
use Rattle.rules.specs.Sets.{find_read, find_write, replaced, nth}
use Rattle.law.specs.Plain.{Op, reads, writes, after_ops}
use Rattle.law.proofs.State.{value_in, Apart}
use Rattle.law.proofs.Newest.{ops_leave}
use Rattle.law.proofs.Serial.{Local}

-- the value of a cell in a write set, as the rules find it
abbrev value_of : Option WriteEntry → Option ℕ
value_of None = None
value_of (Some e) = Some e.value

pub value_found : (c : ℕ) (ws : List WriteEntry) → value_in ws c ≡ value_of (find_write c ws)
value_found c [] = refl
value_found c (e ∷ es) = grind (arith, nat_tests, value_found c es)

pub unwritten_value : (c : ℕ) (ws : List WriteEntry) → find_write c ws ≡ None → value_in ws c ≡ None
unwritten_value c ws none = value_found c ws ∙ ap value_of none

-- one more write, and one in the place of another
pub value_added : (ws : List WriteEntry) (e : WriteEntry) (d : ℕ) → value_in ws e.cell ≡ None → value_in (ws ++ (e ∷ [])) d ≡ cond (eqb d e.cell) (Some e.value) (value_in ws d)
value_added [] e d h = grind arith
value_added (f ∷ fs) e d h = grind (arith, nat_tests, value_added fs e d)

pub value_replaced : (ws : List WriteEntry) (e : WriteEntry) (v d : ℕ) → value_in ws e.cell ≡ Some v → value_in (replaced e ws) d ≡ cond (eqb d e.cell) (Some e.value) (value_in ws d)
value_replaced [] e v d h = grind arith
value_replaced (f ∷ fs) e v d h = grind (arith, nat_tests, value_replaced fs e v d)

-- an entry of a set with one more
pub nth_added : {A : Type 0} (xs : List A) (y : A) (j : ℕ) (x : A) → nth (xs ++ (y ∷ [])) j ≡ Some x → ((nth xs j ≡ Some x) × (take j (xs ++ (y ∷ [])) ≡ take j xs)) ⊎ ((x ≡ y) × (take j (xs ++ (y ∷ [])) ≡ xs))
nth_added [] y zero x h = inr (grind arith, refl)
nth_added [] y (suc j) x h = absurd (grind arith)
nth_added (z ∷ zs) y zero x h = inl (h, refl)
nth_added (z ∷ zs) y (suc j) x h = ⊎_elim
    (λ a. inl (let p = a.0 in grind arith, ap (λ l. z ∷ l) a.1))
    (λ a. inr (a.0, ap (λ l. z ∷ l) a.1))
    (nth_added zs y j x (grind arith))

pub nth_front : {A : Type 0} (xs : List A) (y : A) (j : ℕ) (x : A) → nth xs j ≡ Some x → nth (xs ++ (y ∷ [])) j ≡ Some x
nth_front [] y j x h = grind arith
nth_front (z ∷ zs) y j x h = grind (arith, nat_tests, nth_front zs y (j - 1) x)

pub nth_end : {A : Type 0} (xs : List A) (y : A) → nth (xs ++ (y ∷ [])) (length xs) ≡ Some y
nth_end [] y = refl
nth_end (z ∷ zs) y = let r = nth_end zs y in grind arith

-- no cell comes twice
pub apart_none : Apart []
apart_none j e h = absurd (grind arith)

pub apart_added : (ws : List WriteEntry) (e : WriteEntry) → Apart ws → value_in ws e.cell ≡ None → Apart (ws ++ (e ∷ []))
apart_added ws e apart new j f h = grind (arith, nat_tests, nth_added)

replaced_nth : (ws : List WriteEntry) (e : WriteEntry) (j : ℕ) (f : WriteEntry) → nth (replaced e ws) j ≡ Some f → (o : WriteEntry) × (nth ws j ≡ Some o) × (o.cell ≡ f.cell)
replaced_nth [] e j f h = absurd (grind arith)
replaced_nth (g ∷ gs) e j f h = by (eqb g.cell e.cell) refl (eqb j 0) refl (λ h'. replaced_nth gs e (j - 1) f h')
  where
    by : (b : Bool) → eqb g.cell e.cell ≡ b → (z : Bool) → eqb j 0 ≡ z → (nth (replaced e gs) (j - 1) ≡ Some f → (o : WriteEntry) × (nth gs (j - 1) ≡ Some o) × (o.cell ≡ f.cell)) → (o : WriteEntry) × (nth (g ∷ gs) j ≡ Some o) × (o.cell ≡ f.cell)
    by true p true q ih = (g, grind arith, grind (arith, nat_tests))
    by true p false q ih = (f, grind arith, refl)
    by false p true q ih = (g, grind arith, grind arith)
    by false p false q ih = grind arith

replaced_part : (ws : List WriteEntry) (e : WriteEntry) (j d : ℕ) → value_in (take j ws) d ≡ None → value_in (take j (replaced e ws)) d ≡ None
replaced_part [] e j d h = h
replaced_part (g ∷ gs) e zero d h = refl
replaced_part (g ∷ gs) e (suc j) d h = grind (arith, nat_tests, replaced_part gs e j d)

pub apart_replaced : (ws : List WriteEntry) (e : WriteEntry) → Apart ws → Apart (replaced e ws)
apart_replaced ws e apart j f h = grind (arith, nat_tests, replaced_nth, replaced_part)

-- begin
pub local_none : Local [] [] []
local_none = record { fits = λ a h. tt; last = λ c. refl }

-- write
pub local_added : (ops : List Op) (rs : List ReadEntry) (ws : List WriteEntry) (e : WriteEntry) → find_write e.cell ws ≡ None → Local ops rs ws → Local (writes e.cell e.value ∷ ops) rs (ws ++ (e ∷ []))
local_added ops rs ws e new l = grind (arith, nat_tests, value_added, unwritten_value)

pub local_replaced : (ops : List Op) (rs : List ReadEntry) (ws : List WriteEntry) (e o : WriteEntry) → find_write e.cell ws ≡ Some o → Local ops rs ws → Local (writes e.cell e.value ∷ ops) rs (replaced e ws)
local_replaced ops rs ws e o old l = record {
  fits = l.fits;
  last = λ d. ap (λ o. cond (eqb d e.cell) (Some e.value) o) (l.last d) ∙ sym (value_replaced ws e o.value d (value_found e.cell ws ∙ ap value_of old));
}

-- a read of what the pass wrote, of what it read, and a new one
pub local_own : (ops : List Op) (rs : List ReadEntry) (ws : List WriteEntry) (c : ℕ) (e : WriteEntry) → find_write c ws ≡ Some e → Local ops rs ws → Local (reads c e.value ∷ ops) rs ws
local_own ops rs ws c e own l = grind (arith, nat_tests, ops_leave, value_found)

find_nth : (c : ℕ) (rs : List ReadEntry) (g : ReadEntry) → find_read c rs ≡ Some g → (j : ℕ) × (nth rs j ≡ Some g) × (g.cell ≡ c)
find_nth c [] g h = absurd (grind arith)
find_nth c (r ∷ rs) g h = ⊎_elim
    (λ (b : eqb r.cell c ≡ true). (0, grind arith, grind (arith, nat_tests)))
    (λ (b : eqb r.cell c ≡ false). let f = find_nth c rs g (grind arith) in (suc f.0, let z = f.1 in grind arith, f.2))
    (cases_Bool (eqb r.cell c))

unwritten : (ops : List Op) (rs : List ReadEntry) (ws : List WriteEntry) (c : ℕ) (a : ℕ → ℕ) → find_write c ws ≡ None → Local ops rs ws → after_ops ops a c ≡ a c
unwritten ops rs ws c a none l = grind (arith, nat_tests, ops_leave, unwritten_value)

pub local_known : (ops : List Op) (rs : List ReadEntry) (ws : List WriteEntry) (c : ℕ) (g : ReadEntry) → find_write c ws ≡ None → find_read c rs ≡ Some g → Local ops rs ws → Local (reads c g.value ∷ ops) rs ws
local_known ops rs ws c g none known l = grind (arith, nat_tests, find_nth, unwritten)

pub local_read : (ops : List Op) (rs : List ReadEntry) (ws : List WriteEntry) (g : ReadEntry) → find_write g.cell ws ≡ None → Local ops rs ws → Local (reads g.cell g.value ∷ ops) (rs ++ (g ∷ [])) ws
local_read ops rs ws g none l = record {
  fits = λ a h. (h (length rs) g (nth_end rs g) ∙ sym (unwritten ops rs ws g.cell a none l), l.fits a (λ j r n. h j r (nth_front rs g j r n)));
  last = l.last;
}
