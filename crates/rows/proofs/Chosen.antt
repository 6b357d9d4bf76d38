-- A call on one row is that call on the table: the other rows stay.
use Rattle.std.proofs.Common.{◌≡◌, ℕ, zero, suc, ◌-◌, ◌<◌, ◌≤◌, true, cond, List, [], ◌∷◌, map, length, get_or, set, is_ok, Ok, Err, Result, sym, refl, ap, ◌∙◌, arith, MatchResult}
use mathlib.Core.Path.{subst⁻¹, fun_ext}
use Rattle.std.proofs.lemmas.List.{get_or-map, map-set, get_or-set_same, get_or-set_other, length-map, get_or_past}
use Rattle.std.proofs.lemmas.Bool.{cases_eq}
use Rattle.std.proofs.lemmas.Bool.Decides.{nat_tests}
use Rattle.words.specs.Outcome.{told}
use Rattle.words.specs.declared.refusal.Refusal.{Refusal}
use Rattle.words.specs.declared.version.Version.{Version}
use Rattle.words.specs.Version.{first_version, new_version}
use Rattle.tables.specs.Versions.{with_version, at_stamp, kept}
use Rattle.tables.specs.Table.{Table, Inserted, Altered, Cut, insert_in, put, cleared}
use Rattle.tables.proofs.Lengths.{put_same}
use Rattle.rows.specs.declared.row.Row.{Row}
use Rattle.rows.specs.Row.{row_list}
use Rattle.rows.specs.Rows.{row_lists}
use Rattle.rows.specs.Places.{eight_places, EightEach}
use Rattle.rows.proofs.Eight.{eight_inserted, eight_altered, eight_cut}

-- what the table means, by its rows
abbrev pub mean : List Row → Table
mean rows = eight_places 128 (row_lists rows)

-- the row k of the cell c
module _ (rows : List Row) (d : Row) {k c : ℕ} (is : k ≡ c) (within : k < length rows) where
  -- the list of the cell is the list of its row
  at_row : row_lists rows c ≡ row_list (get_or rows k d)
  at_row = ap (row_lists rows) (sym is) ∙ get_or-map row_list rows k d [] within

  set_row : (r : Row) → row_lists (set rows k r) ≡ put (row_lists rows) c (row_list r)
  set_row r =
      fun_ext (λ q. ap (λ (l : List (List Version)). get_or l q []) (map-set row_list rows k r) ∙ grind (arith, nat_tests, get_or-set_same, get_or-set_other, length-map, cases_eq q k))

  -- a call that changes the row only where it accepts: the table afterwards
  row_changes : (R : Table → Type 0) (new : List Version → List Version) (r : Row) (res : Result ℕ Refusal) → row_list r ≡ cond (is_ok res) (new (row_list (get_or rows k d))) (row_list (get_or rows k d)) → (is_ok res ≡ true → R (eight_places 128 (put (row_lists rows) c (new (row_lists rows c))))) → MatchResult res (λ _. R (mean (set rows k r))) (λ _. mean (set rows k r) ≡ mean rows)
  row_changes R new r (Ok a) e holds =
      subst⁻¹ (λ (l : ℕ → List Version). R (eight_places 128 l)) (set_row r ∙ ap (put (row_lists rows) c) (e ∙ ap new (sym at_row))) (holds refl)
  row_changes R new r (Err x) e holds =
      ap (eight_places 128) (set_row r ∙ ap (put (row_lists rows) c) (e ∙ sym at_row) ∙ put_same (row_lists rows) c)

  pub row_alters : (s : ℕ) (f : Version → Version) (r : Row) (res : Result ℕ Refusal) → row_list r ≡ cond (is_ok res) (at_stamp s f (row_list (get_or rows k d))) (row_list (get_or rows k d)) → MatchResult res (λ _. Altered (mean rows) (mean (set rows k r)) c s f) (λ _. mean (set rows k r) ≡ mean rows)
  row_alters s f r res e = row_changes (λ u. Altered (mean rows) u c s f) (at_stamp s f) r res e (λ _. eight_altered 128 (row_lists rows) c s f)

  pub row_cuts : (s : ℕ) (r : Row) → row_list r ≡ kept s (row_list (get_or rows k d)) → Cut (mean rows) (mean (set rows k r)) c s
  row_cuts s r e =
      row_changes (λ u. Cut (mean rows) u c s) (kept s) r (Ok 0) e
      (λ _. eight_cut 128 (row_lists rows) c s (subst⁻¹ (λ (vs : List Version). length vs ≤ 8) at_row (get_or rows k d).short))

  pub row_inserts : (s x : ℕ) (r : Row) (res : Result ℕ Refusal) → told res ≡ insert_in (row_list (get_or rows k d)) (8 - length (row_list (get_or rows k d))) s → row_list r ≡ cond (is_ok res) (with_version (new_version s x) (row_list (get_or rows k d))) (row_list (get_or rows k d)) → MatchResult res (λ _. Inserted (mean rows) (mean (set rows k r)) c s x) (λ _. mean (set rows k r) ≡ mean rows)
  row_inserts s x r res a e =
      row_changes (λ u. Inserted (mean rows) u c s x) (with_version (new_version s x)) r res e
      (λ ok. eight_inserted 128 (row_lists rows) c s x (subst⁻¹ (λ (vs : List Version). length vs < 8) at_row (room res _ ok a)))
    where
      room : (o : Result ℕ Refusal) (vs : List Version) → is_ok o ≡ true → told o ≡ insert_in vs (8 - length vs) s → length vs < 8
      room o vs ok t = grind (arith, nat_tests)

-- 128 rows of one first version each
pub rows_cleared : (rows : List Row) → length rows ≡ 128 → ((c : ℕ) (d : Row) → c < 128 → row_list (get_or rows c d) ≡ first_version ∷ []) → row_lists rows ≡ cleared 128
rows_cleared rows n first = fun_ext (λ c. grind (arith, nat_tests, all rows c, get_or_past (map row_list rows) c [], length-map rows row_list, first c))
  where
    all : (rows : List Row) (c : ℕ) → c < length rows → ((d : Row) → row_list (get_or rows c d) ≡ first_version ∷ []) → row_lists rows c ≡ first_version ∷ []
    all [] c l h = absurd (omega arith)
    all (r ∷ rs) zero l h = h r
    all (r ∷ rs) (suc c) l h = all rs c (omega arith) h

-- every row is short, so its free places are just what its versions leave
pub rows_exact : (rows : List Row) → EightEach 128 (mean rows)
rows_exact rows = record { cells = refl; full = λ c _. omega (arith, short rows c) }
  where
    short : (rows : List Row) (c : ℕ) → length (row_lists rows c) ≤ 8
    short [] c = omega arith
    short (r ∷ rs) zero = r.short
    short (r ∷ rs) (suc c) = short rs c
