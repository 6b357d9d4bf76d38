-- What a chained table keeps: every record that is used stands in one chain, at one place.
use Rattle.std.specs.Prelude.{◌≡◌, ℕ, zero, suc, ◌+◌, ◌-◌, ◌≤◌, true, cond, List, [], ◌∷◌, length, ◌==◌, nat_lt}
use Rattle.tables.specs.Versions.{sinks}
use Rattle.chains.specs.Chain.{good}
use Rattle.tables.specs.Table.{Table, Sound}
use Rattle.chains.specs.Store.{Store, link, path_of, list, chained}

-- how often j stands in a path
abbrev pub count : ℕ → List ℕ → ℕ
count j [] = 0
count j (i ∷ p) = cond (i == j) 1 0 + count j p

-- f 0 + .. + f (n - 1)
abbrev pub sum : ℕ → (ℕ → ℕ) → ℕ
sum zero f = 0
sum (suc n) f = f n + sum n f

-- every chain ends
abbrev pub Ends : Store → Type 0
Ends s = (q : ℕ) → good s.records (link s q) ≡ true

-- over all chains, the free one too, each record used stands once and no other does
abbrev pub Tallied : Store → Type 0
Tallied s = (j : ℕ) → sum (suc s.cells) (λ q. count j (path_of s q)) ≡ cond (nat_lt j s.used) 1 0

-- the lengths of all chains come to the records used
abbrev pub Full : Store → Type 0
Full s = sum (suc s.cells) (λ q. length (path_of s q)) ≡ s.used

-- the count is that of the free records
abbrev pub Counted : Store → Type 0
Counted s = s.count ≡ length (path_of s s.cells)

-- no list rises
abbrev pub Sinking : Store → Type 0
Sinking s = (c : ℕ) → sinks (list s c) ≡ true

-- at most 1024 cells, and two fewer at least than records used, or none; what is used is lent
pub record Sized (s : Store) : Type 0 where
  pub few : s.cells ≤ 1024
  pub roomy : s.cells ≤ s.used - 2
  pub headed : s.cells ≤ length s.heads
  pub lent : s.used ≤ length s.records

-- the lent memory in order
pub record Kept (s : Store) : Type 0 where
  pub ends : Ends s
  pub tallied : Tallied s
  pub full : Full s
  pub counted : Counted s
  pub sinking : Sinking s
  pub sized : Sized s

-- what stands in the trait's proof
pub chained_sound : (s : Store) → s.cells ≤ 1024 → Sinking s → Sound (chained s)
chained_sound s few sinking = record { few = few; sinking = sinking }

-- the free places of every cell are the records used that hold no version
pub record SharedPlaces (used : ℕ) (t : Table) : Type 0 where
  pub shared : (c : ℕ) → t.free c + sum t.cells (λ q. length (t.versions q)) ≡ used
