-- What a walk along a chain finds.
use Rattle.std.specs.Prelude.{◌≡◌, ℕ, ◌<◌, length, Bool, true, false, ◌&&◌, List, [], ◌∷◌, ◌++◌, map, None, Option, nat_le, nat_lt}
use Rattle.words.specs.declared.version.Version.{Version}
use Rattle.tables.specs.Versions.{holds}
use Rattle.chains.specs.declared.record.Record.{Record}
use Rattle.chains.specs.Chain.{version_of, path, good, along, last_of}
use Rattle.chains.specs.Store.{Store, path_of, list}

-- along the path p, the record at i has the first version stamped s
pub record Found (rs : List Record) (p : List ℕ) (s i : ℕ) : Type 0 where
  pub front : List ℕ
  pub back : List ℕ
  pub split : p ≡ front ++ (i ∷ back)
  pub here : (version_of rs i).write ≡ s
  pub before : holds s (map (version_of rs) front) ≡ false

-- the record at i has the first version of the cell c stamped t
pub record StampedAt (s : Store) (c t i : ℕ) : Type 0 where
  pub within : c < s.cells
  pub lent : i < length s.records
  pub held : holds t (list s c) ≡ true
  pub found : Found s.records (path_of s c) t i

-- every version is stamped above s
abbrev pub above : ℕ → List Version → Bool
above s [] = true
above s (v ∷ vs) = nat_lt s v.write && above s vs

-- there is no version, or the first is not stamped above s
abbrev pub low : ℕ → List Version → Bool
low s [] = true
low s (v ∷ vs) = nat_le v.write s

-- the place of the stamp s is between the record `newer`, if any, and the link `older`
pub record Placed (rs : List Record) (first : Option ℕ) (s : ℕ) (newer older : Option ℕ) : Type 0 where
  pub front : List ℕ
  pub split : path rs first ≡ front ++ path rs older
  pub onward : good rs older ≡ true
  pub last : newer ≡ last_of None front
  pub high : above s (map (version_of rs) front) ≡ true
  pub rest : low s (along rs older) ≡ true
