-- Records linked by index: the path of a link, and the versions along it.
use Rattle.std.specs.Prelude.{ℕ, zero, suc, Bool, true, false, ◌&&◌, List, [], ◌∷◌, map, length, Some, None, Option, nat_lt, slice_index_or}
use Rattle.words.specs.declared.version.Version.{Version}
use Rattle.words.specs.Version.{absent}
use Rattle.chains.specs.declared.record.Record.{Record}

-- a record that holds no version and leads nowhere
abbrev pub blank : Record
blank = record { version = absent; next = None }

abbrev pub next_of : List Record → ℕ → Option ℕ
next_of rs i = (slice_index_or rs i blank).next

abbrev pub version_of : List Record → ℕ → Version
version_of rs i = (slice_index_or rs i blank).version

-- the positions of the records met from a link on, at most n of them
abbrev pub chain : ℕ → List Record → Option ℕ → List ℕ
chain zero rs l = []
chain (suc n) rs None = []
chain (suc n) rs (Some i) = i ∷ chain n rs (next_of rs i)

-- whether a link comes to its end within n records, all at positions below u
abbrev pub ended : ℕ → ℕ → List Record → Option ℕ → Bool
ended u zero rs None = true
ended u zero rs (Some i) = false
ended u (suc n) rs None = true
ended u (suc n) rs (Some i) = nat_lt i u && ended u n rs (next_of rs i)

-- the whole path of a link
abbrev pub path : List Record → Option ℕ → List ℕ
path rs l = chain (length rs) rs l

-- whether a link leads to records only, and comes to its end
abbrev pub good : List Record → Option ℕ → Bool
good rs l = ended (length rs) (length rs) rs l

-- the versions along the path of a link
abbrev pub along : List Record → Option ℕ → List Version
along rs l = map (version_of rs) (path rs l)

-- what a walk gives at the record at i, and along the path of a link
abbrev pub stop : List Record → ℕ → ℕ × Version
stop rs i = (i, version_of rs i)

abbrev pub met : List Record → Option ℕ → List (ℕ × Version)
met rs l = map (stop rs) (path rs l)

-- the last position of a path, or the link l before it
abbrev pub last_of : Option ℕ → List ℕ → Option ℕ
last_of l [] = l
last_of l (i ∷ p) = last_of (Some i) p
