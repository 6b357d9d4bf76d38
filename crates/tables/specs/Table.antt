-- What a version table means, and what each of its calls answers and leaves.
use Rattle.std.specs.Prelude.{◌≡◌, ℕ, ◌+◌, ◌<◌, ◌≤◌, min, true, cond, List, [], ◌∷◌, length, ◌==◌, ◌≢◌, nat_lt, slice_index_or}
use Rattle.words.specs.Outcome.{Outcome, accepted, refuse}
use Rattle.words.specs.declared.refusal.Refusal.TheVariants.{NoCell, StampTaken, NoPlace, NoVersion}
use Rattle.words.specs.declared.version.Version.{Version}
use Rattle.words.specs.Version.{absent, first_version, new_version}
use Rattle.tables.specs.Versions.{top, sinks, holds, holds_pending, with_version, at_stamp, kept, cut_count}

-- a fixed number of cells; for each cell its versions, newest first, and its free places
pub record Table : Type 0 where
  pub cells : ℕ
  pub versions : ℕ → List Version
  pub free : ℕ → ℕ

-- what is known of every table at every moment
pub record Sound (t : Table) : Type 0 where
  pub few : t.cells ≤ 1024
  pub sinking : (c : ℕ) → sinks (t.versions c) ≡ true

-- f, but for x at c
abbrev pub put : {A : Type 0} → (ℕ → A) → ℕ → A → ℕ → A
put f c x q = cond (q == c) x (f q)

-- a number as a 64-bit answer gives it: itself, held at 2^64 - 1
abbrev pub held : ℕ → ℕ
held n = min n top

-- clear: one committed version a cell, both stamps 0, value 0
abbrev pub cleared : ℕ → ℕ → List Version
cleared n c = cond (nat_lt c n) (first_version ∷ []) []

pub record Cleared (t u : Table) : Type 0 where
  pub cells : u.cells ≡ t.cells
  pub versions : u.versions ≡ cleared t.cells
  pub free : (c : ℕ) → c < t.cells → 2 ≤ u.free c

-- the rule of every call on a cell: first, the cell has to be there
abbrev pub in_cell : {A : Type 0} → Table → ℕ → Outcome A → Outcome A
in_cell t c o = cond (nat_lt c t.cells) o (refuse NoCell)

-- questions
abbrev pub free_answer : Table → ℕ → Outcome ℕ
free_answer t c = in_cell t c (accepted (held (t.free c)))

abbrev pub length_answer : Table → ℕ → Outcome ℕ
length_answer t c = in_cell t c (accepted (held (length (t.versions c))))

abbrev pub version_in : List Version → ℕ → Outcome Version
version_in vs i = cond (nat_lt i (length vs)) (accepted (slice_index_or vs i absent)) (refuse NoVersion)

abbrev pub version_answer : Table → ℕ → ℕ → Outcome Version
version_answer t c i = in_cell t c (version_in (t.versions c) i)

-- u is t but for the versions of the cell c, which are vs
pub record Only (t u : Table) (c : ℕ) (vs : List Version) : Type 0 where
  pub cells : u.cells ≡ t.cells
  pub versions : u.versions ≡ put t.versions c vs

-- insert of the value x under the stamp s
abbrev pub insert_in : List Version → ℕ → ℕ → Outcome ℕ
insert_in vs free s = cond (holds s vs) (refuse StampTaken) (cond (free == 0) (refuse NoPlace) (accepted 0))

abbrev pub insert_answer : Table → ℕ → ℕ → Outcome ℕ
insert_answer t c s = in_cell t c (insert_in (t.versions c) (t.free c) s)

pub record Inserted (t u : Table) (c s x : ℕ) : Type 0 where
  pub only : Only t u c (with_version (new_version s x) (t.versions c))
  pub taken : u.free c + 1 ≡ t.free c
  pub least : (q : ℕ) → (q ≢ c) → t.free q ≤ u.free q + 1
  pub most : (q : ℕ) → (q ≢ c) → u.free q ≤ t.free q

-- raise and mark change the first version stamped s, and no free place
pub record Altered (t u : Table) (c s : ℕ) (f : Version → Version) : Type 0 where
  pub only : Only t u c (at_stamp s f (t.versions c))
  pub free : (q : ℕ) → u.free q ≡ t.free q

abbrev pub raise_in : List Version → ℕ → Outcome ℕ
raise_in vs s = cond (holds s vs) (accepted 0) (refuse NoVersion)

abbrev pub raise_answer : Table → ℕ → ℕ → Outcome ℕ
raise_answer t c s = in_cell t c (raise_in (t.versions c) s)

abbrev pub mark_in : List Version → ℕ → Outcome ℕ
mark_in vs s = cond (holds_pending s vs) (accepted 0) (refuse NoVersion)

abbrev pub mark_answer : Table → ℕ → ℕ → Outcome ℕ
mark_answer t c s = in_cell t c (mark_in (t.versions c) s)

-- cut at the stamp s
abbrev pub cut_answer : Table → ℕ → ℕ → Outcome ℕ
cut_answer t c s = in_cell t c (accepted (held (cut_count s (t.versions c))))

pub record Cut (t u : Table) (c s : ℕ) : Type 0 where
  pub only : Only t u c (kept s (t.versions c))
  pub given : u.free c ≡ t.free c + cut_count s (t.versions c)
  pub least : (q : ℕ) → (q ≢ c) → t.free q ≤ u.free q
  pub most : (q : ℕ) → (q ≢ c) → u.free q ≤ t.free q + cut_count s (t.versions c)
