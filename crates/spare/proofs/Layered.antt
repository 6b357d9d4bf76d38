-- What a call on the table below or on a spare place leaves, as what the call leaves of the table
-- with spare places.
use Rattle.std.proofs.Common.{◌≡◌, ℕ, ◌+◌, List, Some, None, Option, Result, sym, refl, ap, ◌∙◌, arith, MatchResult}
use mathlib.Core.Path.{subst⁻¹, fun_ext}
use Rattle.std.proofs.lemmas.Bool.Decides.{nat_tests}
use Rattle.std.proofs.lemmas.Result.{MatchResult-weaker}
use Rattle.words.specs.Outcome.{accepted}
use Rattle.words.specs.declared.refusal.Refusal.{Refusal}
use Rattle.words.specs.declared.version.Version.{Version}
use Rattle.words.specs.Version.{new_version}
use Rattle.tables.specs.Versions.{with_version, kept}
use Rattle.tables.specs.Table.{Table, Sound, Cleared, Only, Inserted, Altered, Cut, put, in_cell}
use Rattle.tables.proofs.Lengths.{put_same}
use Rattle.spare.specs.Spare.{no_spares, room, stamped, kept_spare, with_spare, layered}
use Rattle.spare.proofs.Beside.{inserted_below, changed_below, changed_spare, cut_both, count_both, room_after, no_room}

pub layered_clear : (spares spares' : ℕ → Option Version) (t u : Table) → spares' ≡ no_spares → Cleared t u → Cleared (layered spares t) (layered spares' u)
layered_clear spares spares' t u empty h =
    subst⁻¹ (λ (s : ℕ → Option Version). Cleared (layered spares t) (layered s u)) empty
    (record { cells = h.cells; versions = h.versions; free = λ c within. omega (arith, h.free c within) })

-- afterwards the list of one cell below is vs, and o is in the spare place of that cell
module _ (spares spares' : ℕ → Option Version) (t u : Table) (c : ℕ) (o : Option Version) (written : spares' ≡ put spares c o) where
  lists : (vs : List Version) → Only t u c vs → (layered spares' u).versions ≡ put (layered spares t).versions c (with_spare o vs)
  lists vs h =
      fun_ext (λ q. grind (arith, nat_tests, ap (λ (s : ℕ → Option Version). s q) written, ap (λ (f : ℕ → List Version). f q) h.versions))

  only : (vs ws : List Version) → Only t u c vs → with_spare o vs ≡ ws → Only (layered spares t) (layered spares' u) c ws
  only vs ws h e =
      record { cells = h.cells; versions = lists vs h ∙ ap (put (layered spares t).versions c) e }

  free_here : (layered spares' u).free c ≡ u.free c + room o
  free_here = grind (arith, nat_tests, ap (λ (s : ℕ → Option Version). s c) written)

  free_other : (q : ℕ) → (q ≡ c → ⊥) → (layered spares' u).free q ≡ u.free q + room (spares q)
  free_other q ne = grind (arith, nat_tests, ap (λ (s : ℕ → Option Version). s q) written)

-- a table whose list is as it was
as_it_was : (t : Table) (c : ℕ) → Only t t c (t.versions c)
as_it_was t c = record { cells = refl; versions = sym (put_same t.versions c) }

-- what was answered for a cell is what stands there
pub found_is : {A : Type 0} (t : Table) (c : ℕ) (a b : A) → accepted a ≡ in_cell t c (accepted b) → (d : A) → a ≡ d → d ≡ b
found_is t c a b found d is = grind (arith, nat_tests)

-- below, at a stamp that the spare version does not have
module _ (spares : ℕ → Option Version) (t u : Table) (c s : ℕ) (other : None ≡ stamped s (spares c)) (r : Result ℕ Refusal) where
  -- a call that went below leaves all as it was if it was refused
  carried : {P Q : Type 0} → (P → Q) → MatchResult r (λ _. P) (λ _. u ≡ t) → MatchResult r (λ _. Q) (λ _. layered spares u ≡ layered spares t)
  carried f h = MatchResult-weaker r h (λ _. f) (λ _. ap (layered spares))

  pub layered_insert : (x : ℕ) → MatchResult r (λ _. Inserted t u c s x) (λ _. u ≡ t) → MatchResult r (λ _. Inserted (layered spares t) (layered spares u) c s x) (λ _. layered spares u ≡ layered spares t)
  layered_insert x =
      carried (λ h.
      record {
        only = only spares spares t u c (spares c) (sym (put_same spares c)) _ _ h.only (inserted_below s x (spares c) other (t.versions c));
        taken = omega (arith, h.taken);
        least = λ q ne. omega (arith, h.least q ne);
        most = λ q ne. omega (arith, h.most q ne);
      })

  pub layered_change : (f : Version → Version) → ((v : Version) → (f v).write ≡ v.write) → MatchResult r (λ _. Altered t u c s f) (λ _. u ≡ t) → MatchResult r (λ _. Altered (layered spares t) (layered spares u) c s f) (λ _. layered spares u ≡ layered spares t)
  layered_change f same =
      carried (λ h.
      record {
        only = only spares spares t u c (spares c) (sym (put_same spares c)) _ _ h.only (changed_below f same s (spares c) other (t.versions c));
        free = λ q. ap (λ n. n + room (spares q)) (h.free q);
      })

-- in the spare place
module _ (spares spares' : ℕ → Option Version) (t : Table) (c s : ℕ) where
  pub spare_insert : (x : ℕ) → None ≡ spares c → spares' ≡ put spares c (Some (new_version s x)) → Inserted (layered spares t) (layered spares' t) c s x
  spare_insert x empty written =
      let new = new_version s x in
      record {
        only = only spares spares' t t c (Some new) written (t.versions c) _ (as_it_was t c) (ap (λ o. with_version new (with_spare o (t.versions c))) empty);
        taken = omega (arith, free_here spares spares' t t c (Some new) written, ap room empty);
        least = λ q ne. omega (arith, free_other spares spares' t t c (Some new) written q ne);
        most = λ q ne. omega (arith, free_other spares spares' t t c (Some new) written q ne);
      }

  pub spare_change : (f : Version → Version) → ((v : Version) → (f v).write ≡ v.write) → (v w : Version) → w ≡ f v → Some v ≡ stamped s (spares c) → spares' ≡ put spares c (Some w) → Altered (layered spares t) (layered spares' t) c s f
  spare_change f same v w changed is written =
      let list = ap (λ x. with_version x (t.versions c)) changed ∙ changed_spare f same s v (spares c) is (t.versions c) in
      record {
        only = only spares spares' t t c (Some w) written (t.versions c) _ (as_it_was t c) list;
        free = λ q. grind (arith, nat_tests, ap (λ (k : ℕ → Option Version). k q) written, no_room s v (spares c) is);
      }

-- below and in the spare place
pub layered_cut : (spares spares' : ℕ → Option Version) (t u : Table) (c s : ℕ) → Sound t → spares' ≡ put spares c (kept_spare s (spares c)) → Cut t u c s → Cut (layered spares t) (layered spares' u) c s
layered_cut spares spares' t u c s sound written h =
    let o = kept_spare s (spares c) in
    let count = count_both s (spares c) (t.versions c) (sound.sinking c) in
    record {
      only = only spares spares' t u c o written (kept s (t.versions c)) _ h.only (cut_both s (spares c) (t.versions c) (sound.sinking c));
      given = omega (arith, count, h.given, free_here spares spares' t u c o written, room_after s (spares c));
      least = λ q ne. omega (arith, h.least q ne, free_other spares spares' t u c o written q ne);
      most = λ q ne. omega (arith, count, h.most q ne, free_other spares spares' t u c o written q ne);
    }
