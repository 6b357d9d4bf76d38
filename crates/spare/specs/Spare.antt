-- What one spare place beside each cell makes of a table.
use Rattle.std.specs.Prelude.{◌≡◌, ℕ, ◌+◌, ◌-◌, Bool, true, false, cond, List, Some, None, Option, ◌==◌, nat_le, slice_index_or, refl}
use Rattle.std.proofs.lemmas.Bool.{leb-true}
use Rattle.words.specs.declared.version.Version.{Version}
use Rattle.tables.specs.Versions.{top, sinks, with_version, stays}
use Rattle.tables.specs.Table.{Table, Sound}
use Rattle.tables.proofs.Order.{sinks_with}

-- what a place holds; its stamp fits 64 bits, as every stamp does
abbrev pub stored : Option Version → Option Version
stored None = None
stored (Some v) = cond (nat_le v.write top) (Some v) None

-- the spare version of the cell c; a place that is not there is empty
abbrev pub spare_at : List (Option Version) → ℕ → Option Version
spare_at places c = stored (slice_index_or places c None)

-- every place is empty
abbrev pub no_spares : ℕ → Option Version
no_spares c = None

-- how many versions a place holds
abbrev pub taken : Option Version → ℕ
taken None = 0
taken (Some v) = 1

-- how many versions a place has room for
abbrev pub room : Option Version → ℕ
room o = 1 - taken o

-- the spare version, if it is stamped s
abbrev pub stamped : ℕ → Option Version → Option Version
stamped s None = None
stamped s (Some v) = cond (v.write == s) (Some v) None

-- what a cut at s leaves in a place
abbrev pub kept_spare : ℕ → Option Version → Option Version
kept_spare s None = None
kept_spare s (Some v) = cond (stays s v) (Some v) None

-- how many versions a cut at s removes from a place
abbrev pub lost : ℕ → Option Version → ℕ
lost s o = taken o - taken (kept_spare s o)

-- a list with the spare version put in by its stamp
abbrev pub with_spare : Option Version → List Version → List Version
with_spare None vs = vs
with_spare (Some v) vs = with_version v vs

-- the table t with a spare place beside each cell, which holds the version that `spares` gives
abbrev pub layered : (ℕ → Option Version) → Table → Table
layered spares t = record { cells = t.cells; versions = λ c. with_spare (spares c) (t.versions c); free = λ c. t.free c + room (spares c) }

-- the table t with one more free place in each cell
abbrev pub one_more : Table → Table
one_more t = record { cells = t.cells; versions = t.versions; free = λ c. t.free c + 1 }

-- the cell c of the table u is that of t, with o in a spare place beside it
pub record Spared (t u : Table) (c : ℕ) (o : Option Version) : Type 0 where
  pub versions : u.versions c ≡ with_spare o (t.versions c)
  pub free : u.free c ≡ t.free c + room o

-- a list with a stored version put in sinks, if it sank
spare_sinks : (o : Option Version) (vs : List Version) → sinks vs ≡ true → sinks (with_spare (stored o) vs) ≡ true
spare_sinks None vs sinking = sinking
spare_sinks (Some v) vs sinking = by (nat_le v.write top) refl
  where
    by : (b : Bool) → nat_le v.write top ≡ b → sinks (with_spare (cond b (Some v) None) vs) ≡ true
    by true e = sinks_with top v vs (leb-true v.write top e) sinking
    by false e = sinking

-- what is known of every table is known of it with spare places
pub layered_sound : (places : List (Option Version)) (t : Table) → Sound t → Sound (layered (spare_at places) t)
layered_sound places t sound =
    record { few = sound.few; sinking = λ c. spare_sinks (slice_index_or places c None) (t.versions c) (sound.sinking c) }
