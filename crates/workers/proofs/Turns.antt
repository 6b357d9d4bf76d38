-- What the rules of an open pass come to, by what the searches of its sets tell.
use Rattle.std.proofs.Common.{◌≡◌, ℕ, ◌+◌, ◌<◌, ◌≤◌, eqb, List, [], ◌∷◌, ◌++◌, length, get_or, set, Some, None, Option, refl, arith, le-ltb, lt-ltb}
use Rattle.std.specs.List.{position}
use Rattle.words.specs.Outcome.{accepted, refuse}
use Rattle.words.specs.declared.refusal.Refusal.TheVariants.{SetFull}
use Rattle.words.specs.declared.version.Version.{Version}
use Rattle.tables.specs.Table.{Table}
use Rattle.rules.specs.declared.entry.ReadEntry.{ReadEntry}
use Rattle.rules.specs.declared.entry.WriteEntry.{WriteEntry}
use Rattle.rules.specs.Model.{open', Worker, at_stage}
use Rattle.rules.specs.Sets.{find_read, find_write}
use Rattle.rules.specs.Search.{visible, search}
use Rattle.rules.specs.Rules.{Came, read_known, read_written}
use Rattle.rules.specs.Turns.{pass_stamp, read_by, read_new_by, written_by}
use Rattle.workers.specs.Shape.{known, known_in}
use Rattle.searches.proofs.Places.{place_none, place_holds, place_replaces}

abbrev cell_of_write : WriteEntry → ℕ
cell_of_write e = e.cell

abbrev cell_of_read : ReadEntry → ℕ
cell_of_read e = e.cell

module _ (x : Worker) (rs : List ReadEntry) (ws : List WriteEntry) (e : WriteEntry) where
  abbrev in_pass : Worker
  in_pass = at_stage x (open' rs ws)

  pub write_some : (i : ℕ) → position (λ (w : WriteEntry). eqb w.cell e.cell) ws ≡ Some i → (accepted (length ws), at_stage x (open' rs (set ws i e))) ≡ written_by (find_write e.cell ws) e rs ws in_pass
  write_some i h = rw (place_holds cell_of_write e.cell i ws e h, place_replaces e i ws h) refl

  pub write_full : position (λ (w : WriteEntry). eqb w.cell e.cell) ws ≡ None → 16 ≤ length ws → (refuse SetFull, in_pass) ≡ written_by (find_write e.cell ws) e rs ws in_pass
  write_full h many = rw (place_none cell_of_write e.cell ws h, lt-ltb 15 (length ws) (omega arith)) refl

  pub write_more : position (λ (w : WriteEntry). eqb w.cell e.cell) ws ≡ None → length ws < 16 → (accepted (length ws + 1), at_stage x (open' rs (ws ++ (e ∷ [])))) ≡ written_by (find_write e.cell ws) e rs ws in_pass
  write_more h few = rw (place_none cell_of_write e.cell ws h, le-ltb 15 (length ws) (omega arith)) refl

-- what is known of a cell, by the positions of its entries
module _ (rs : List ReadEntry) (ws : List WriteEntry) (c : ℕ) where
  pub known_own : (i : ℕ) (d : WriteEntry) → position (λ (e : WriteEntry). eqb e.cell c) ws ≡ Some i → Some (get_or ws i d).value ≡ known c rs ws
  known_own i d h = rw (place_holds cell_of_write c i ws d h) refl

  pub known_seen : (i : ℕ) (d : ReadEntry) → position (λ (e : WriteEntry). eqb e.cell c) ws ≡ None → position (λ (e : ReadEntry). eqb e.cell c) rs ≡ Some i → Some (get_or rs i d).value ≡ known c rs ws
  known_seen i d no' h = rw (place_none cell_of_write c ws no', place_holds cell_of_read c i rs d h) refl

  pub known_none : position (λ (e : WriteEntry). eqb e.cell c) ws ≡ None → position (λ (e : ReadEntry). eqb e.cell c) rs ≡ None → None ≡ known c rs ws
  known_none no' none = rw (place_none cell_of_write c ws no', place_none cell_of_read c rs none) refl

-- a read of an open pass
module _ (x : Worker) (rs : List ReadEntry) (ws : List WriteEntry) (t : Table) (w c : ℕ) where
  abbrev reader : Worker
  reader = at_stage x (open' rs ws)

  abbrev fresh : Came Worker
  fresh = read_new_by c rs ws (search (visible (pass_stamp x w)) t c) reader

  abbrev from_known : Option ℕ → Came Worker
  from_known (Some v) = (accepted v, reader)
  from_known None = fresh

  read_is : read_by t w c reader ≡ from_known (known c rs ws)
  read_is = by (find_write c ws) (find_read c rs)
    where
      by : (o : Option WriteEntry) (p : Option ReadEntry) → read_written o reader (read_known p reader fresh) ≡ from_known (known_in o p)
      by (Some e) p = refl
      by None (Some e) = refl
      by None None = refl

  -- where the cell is not known and the read set has room, the version that is found joins the read set
  pub read_found : None ≡ known c rs ws → length rs < 16 → (v : Version) → accepted v ≡ search (visible (pass_stamp x w)) t c
      → (accepted v.value, at_stage x (open' (rs ++ (record { cell = c; stamp = v.write; value = v.value } ∷ [])) ws)) ≡ read_by t w c reader
  read_found none few v h = rw (read_is, ← none, le-ltb 15 (length rs) (omega arith), ← h) refl
