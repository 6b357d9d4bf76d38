-- A cell's list of versions, newest first, and what each call makes of it.
use Rattle.std.specs.Prelude.{ℕ, ◌-◌, ◌^◌, max, Bool, true, false, cond, ◌&&◌, ◌||◌, ltb, leb, List, [], ◌∷◌, length, filter, ◌==◌, nat_le, nat_lt}
use Rattle.words.specs.Status.{pending, ended}
use Rattle.words.specs.declared.status.Ending.{Ending}
use Rattle.words.specs.declared.version.Version.{Version}

-- the largest number of 64 bits
abbrev pub top : ℕ
top = 2 ^ 64 - 1

-- each write stamp passes the test against the one before it, and the first against n
abbrev pub ordered : (ℕ → ℕ → Bool) → ℕ → List Version → Bool
ordered test n [] = true
ordered test n (v ∷ vs) = test v.write n && ordered test v.write vs

-- no write stamp is above the one before it, and the first fits 64 bits
abbrev pub sinks : List Version → Bool
sinks vs = ordered leb top vs

-- each write stamp is below the one before it
abbrev pub falls : List Version → Bool
falls [] = true
falls (v ∷ vs) = ordered ltb v.write vs

-- whether some version is stamped s
abbrev pub holds : ℕ → List Version → Bool
holds s [] = false
holds s (v ∷ vs) = v.write == s || holds s vs

-- whether the first version stamped s is there and is pending
abbrev pub holds_pending : ℕ → List Version → Bool
holds_pending s [] = false
holds_pending s (v ∷ vs) = cond (v.write == s) (pending v.status) (holds_pending s vs)

-- v put in by its stamp, after every version that is stamped above it
abbrev pub with_version : Version → List Version → List Version
with_version v [] = v ∷ []
with_version v (w ∷ ws) = cond (nat_lt v.write w.write) (w ∷ with_version v ws) (v ∷ w ∷ ws)

-- f done to the first version stamped s
abbrev pub at_stamp : ℕ → (Version → Version) → List Version → List Version
at_stamp s f [] = []
at_stamp s f (v ∷ vs) = cond (v.write == s) (f v ∷ vs) (v ∷ at_stamp s f vs)

-- the read stamp raised to the greater of itself and r
abbrev pub raised : ℕ → Version → Version
raised r v = record { write = v.write; read = max v.read r; status = v.status; value = v.value }

abbrev pub marked : Ending → Version → Version
marked e v = record { write = v.write; read = v.read; status = ended e; value = v.value }

-- the test of a cut at s: which versions stay
abbrev pub stays : ℕ → Version → Bool
stays s v = nat_le s v.write

-- what a cut at s leaves
abbrev pub kept : ℕ → List Version → List Version
kept s vs = filter (stays s) vs

-- how many versions a cut at s removes
abbrev pub cut_count : ℕ → List Version → ℕ
cut_count s vs = length vs - length (kept s vs)
