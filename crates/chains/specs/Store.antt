-- What a chained table means, by the memory lent to it.
use Rattle.std.specs.Prelude.{◌≡◌, ℕ, ◌+◌, ◌-◌, ◌<◌, min, cond, List, [], length, drop, Some, None, Option, ◌==◌, nat_lt, slice_index_or, slice_set}
use Rattle.words.specs.declared.version.Version.{Version}
use Rattle.words.specs.Version.{first_version}
use Rattle.tables.specs.Table.{Table, cleared}
use Rattle.chains.specs.declared.record.Record.{Record}
use Rattle.chains.specs.declared.links.Links.{Links}
use Rattle.chains.specs.Chain.{next_of, version_of, path, along}

-- the lent memory as it stands: heads, records, how much of each is used, and the free records
pub record Store : Type 0 where
  pub heads : List (Option ℕ)
  pub records : List Record
  pub cells : ℕ
  pub used : ℕ
  pub free : Option ℕ
  pub count : ℕ

abbrev pub store : Links → Store
store l =
    record {
      heads = l.heads.now;
      records = l.records.now;
      cells = l.cells;
      used = l.used;
      free = l.free;
      count = l.free_count;
    }

-- the version at i rewritten
abbrev pub rewrite : Store → ℕ → Version → Store
rewrite s i v =
    record {
      heads = s.heads;
      records = slice_set s.records i (record { version = v; next = next_of s.records i });
      cells = s.cells;
      used = s.used;
      free = s.free;
      count = s.count;
    }

-- the record at i of a cleared table: one version for each cell, and behind them the free records
abbrev pub cleared_record : ℕ → ℕ → ℕ → Record
cleared_record cells used i =
    record { version = first_version; next = cond (nat_lt i cells) None (cond (nat_lt (i + 1) used) (Some (i + 1)) None) }

-- how many of v records are used
abbrev pub used_of : ℕ → ℕ
used_of v = min v 8192

-- how many cells h heads and v records make
abbrev pub cells_of : ℕ → ℕ → ℕ
cells_of h v = min (min h 1024) (used_of v - 2)

-- the first link of chain q: of a cell, or, at the number of cells, of the free records
abbrev pub link : Store → ℕ → Option ℕ
link s q = cond (nat_lt q s.cells) (slice_index_or s.heads q None) (cond (q == s.cells) s.free None)

abbrev pub path_of : Store → ℕ → List ℕ
path_of s q = path s.records (link s q)

-- a cell's versions
abbrev pub list : Store → ℕ → List Version
list s c = cond (nat_lt c s.cells) (along s.records (link s c)) []

-- the free records are the free places of every cell
abbrev pub chained : Store → Table
chained s = record { cells = s.cells; versions = list s; free = λ c. s.count }

-- what the lent memory means
abbrev pub mean : Links → Table
mean l = chained (store l)

-- the cleared table of that many cells and records: each record that is no cell's is free
abbrev pub chained_clear : ℕ → ℕ → Table
chained_clear cells used = record { cells = cells; versions = cleared cells; free = λ c. used - cells }

-- the link behind the record at `newer`, or the head of c where there is none, led to `to`
abbrev pub heads_to : Option ℕ → ℕ → Option ℕ → List (Option ℕ) → List (Option ℕ)
heads_to None c to hs = slice_set hs c to
heads_to (Some k) c to hs = hs

abbrev pub records_to : Option ℕ → Option ℕ → List Record → List Record
records_to None to rs = rs
records_to (Some k) to rs = slice_set rs k (record { version = version_of rs k; next = to })

-- the record at x rewritten as r, chain c led to `to` behind `newer`, and n free records from `fl` on
abbrev pub moved : Store → ℕ → Option ℕ → Option ℕ → ℕ → Record → Option ℕ → ℕ → Store
moved s c newer to x r fl n =
    record {
      heads = heads_to newer c to s.heads;
      records = records_to newer to (slice_set s.records x r);
      cells = s.cells;
      used = s.used;
      free = fl;
      count = n;
    }

-- the version v written into the first free record, f, put into chain c between `newer` and `older`
abbrev pub taken : Store → ℕ → Option ℕ → Option ℕ → ℕ → Version → Store
taken s c newer older f v =
    moved s c newer (Some f) f (record { version = v; next = older }) (next_of s.records f) (s.count - 1)

-- the record at i taken out of chain c, where it stands behind `newer`, and put in front of the free ones
abbrev pub freed : Store → ℕ → Option ℕ → ℕ → Store
freed s c newer i =
    moved s c newer (next_of s.records i) i (record { version = version_of s.records i; next = s.free }) (Some i)
    (s.count + 1)

-- what is lent and not used stays as it was
pub record Unused (s s' : Store) : Type 0 where
  pub cells : s'.cells ≡ s.cells
  pub used : s'.used ≡ s.used
  pub heads : drop s.cells s'.heads ≡ drop s.cells s.heads
  pub records : drop s.used s'.records ≡ drop s.used s.records

-- what is written by a move of the record at i into or out of chain c, behind `newer`, is there
pub record Touches (s : Store) (c : ℕ) (newer : Option ℕ) (i : ℕ) : Type 0 where
  pub headed : c < length s.heads
  pub lent : i < length s.records
  pub led : (k : ℕ) → newer ≡ Some k → k < length s.records

-- the chain of the cell c, as a walk sees it: the records, and the first link
pub record ChainOf (s : Store) (c : ℕ) (rs : List Record) (first : Option ℕ) : Type 0 where
  pub within : c < s.cells
  pub lent : rs ≡ s.records
  pub led : first ≡ link s c
