-- The plain array: one value a cell, all 0 at first. Passes run on it alone, one after another.
use Rattle.std.specs.Prelude.{◌≡◌, ℕ, cond, List, [], ◌∷◌, ◌==◌, nat_lt}

-- a read of a cell with the value it was answered, or a write of a value to a cell
pub data Op : Type 0 where
  reads : ℕ → ℕ → Op
  writes : ℕ → ℕ → Op

-- a pass: its timestamp, and its accepted reads and writes, the latest first
pub record Pass : Type 0 where
  pub stamp : ℕ
  pub ops : List Op

abbrev pub zeros : ℕ → ℕ
zeros c = 0

-- what the cell c holds after the operations on the array a
abbrev pub after_ops : List Op → (ℕ → ℕ) → ℕ → ℕ
after_ops [] a c = a c
after_ops (reads d v ∷ ops) a c = after_ops ops a c
after_ops (writes d v ∷ ops) a c = cond (c == d) v (after_ops ops a c)

-- every read was answered what the array then held
abbrev pub Fits : List Op → (ℕ → ℕ) → Type 0
Fits [] a = Unit {0}
Fits (reads c v ∷ ops) a = (v ≡ after_ops ops a c) × Fits ops a
Fits (writes c v ∷ ops) a = Fits ops a

-- the array after passes, the last first
abbrev pub after : List Pass → ℕ → ℕ
after [] = zeros
after (p ∷ ps) = after_ops p.ops (after ps)

-- every pass fits the array that the passes before it leave
abbrev pub Replays : List Pass → Type 0
Replays [] = Unit {0}
Replays (p ∷ ps) = Fits p.ops (after ps) × Replays ps

-- passes by timestamp, the last first
abbrev pub placed : Pass → List Pass → List Pass
placed p [] = p ∷ []
placed p (q ∷ qs) = cond (nat_lt p.stamp q.stamp) (q ∷ placed p qs) (p ∷ q ∷ qs)

abbrev pub by_stamp : List Pass → List Pass
by_stamp [] = []
by_stamp (p ∷ ps) = placed p (by_stamp ps)

-- the passes stamped below s
abbrev pub below : ℕ → List Pass → List Pass
below s [] = []
below s (p ∷ ps) = cond (nat_lt p.stamp s) (p ∷ below s ps) (below s ps)
