-- What the proof follows through a run: all running and committed passes by their timestamps, the
-- versions by cell and stamp, and what ties the two.
use Rattle.std.proofs.Common.{◌≡◌, ℕ, ◌+◌, ◌-◌, ◌*◌, ◌<◌, ◌≤◌, Bool, true, false, cond, eqb, ltb, ◌⊎◌, List, [], ◌∷◌, length, take, Some, None, Option}
use Rattle.words.specs.declared.status.Status.TheVariants.{Pending, Committed}
use Rattle.words.specs.declared.version.Version.{Version}
use Rattle.rules.specs.declared.entry.ReadEntry.{ReadEntry}
use Rattle.rules.specs.declared.entry.WriteEntry.{WriteEntry}
use Rattle.rules.specs.Sets.{nth}

-- a pass on its way: its sets, how many steps are done, and whether it is committed
pub record Progress : Type 0 where
  pub reads : List ReadEntry
  pub writes : List WriteEntry
  pub k : ℕ
  pub ended : Bool

abbrev pub W : Progress → ℕ
W P = length P.writes

abbrev pub R : Progress → ℕ
R P = length P.reads

pub record State : Type 0 where
  pub cells : ℕ
  pub pass : ℕ → Option Progress
  pub at : ℕ → ℕ → Option Version

-- the value that a write set has for a cell
abbrev pub value_in : List WriteEntry → ℕ → Option ℕ
value_in [] c = None
value_in (e ∷ es) c = cond (eqb e.cell c) (Some e.value) (value_in es c)

-- no cell twice
abbrev pub Apart : List WriteEntry → Type 0
Apart ws = (j : ℕ) (e : WriteEntry) → nth ws j ≡ Some e → value_in (take j ws) e.cell ≡ None

-- what a pass has installed, and which of its writes it has checked
abbrev pub installed : Progress → ℕ → Option ℕ
installed P c = value_in (take P.k P.writes) c

abbrev pub checked : Progress → ℕ → Option ℕ
checked P c = value_in (take (P.k - (W P + 2 * R P)) P.writes) c

-- the committed value of a cell under a stamp: every cell begins with 0 under 0
abbrev pub committed_by : Option Progress → ℕ → Option ℕ
committed_by None c = None
committed_by (Some P) c = cond P.ended (value_in P.writes c) None

abbrev pub committed : State → ℕ → ℕ → Option ℕ
committed s c t = cond (eqb t 0) (cond (ltb c s.cells) (Some 0) None) (committed_by (s.pass t) c)

-- a version of a cell with its status
abbrev pub Runs : State → ℕ → Progress → Type 0
Runs s t P = (s.pass t ≡ Some P) × (P.ended ≡ false)

-- a committed version of the cell c under the stamp u
abbrev pub Stands : State → ℕ → ℕ → Type 0
Stands s c u = (x : Version) × (s.at c u ≡ Some x) × (x.status ≡ Committed)

-- a committed write is there, or a newer one is that is stamped below the keep line
abbrev pub Covers : State → ℕ → ℕ → ℕ → Type 0
Covers s line c w = Stands s c w ⊎ ((u : ℕ) × Stands s c u × (w < u) × (u < line))

-- the table and the passes agree
pub record Agrees (s : State) (line : ℕ) : Type 0 where
  pub stands : (c t : ℕ) (x : Version) → s.at c t ≡ Some x → x.status ≡ Committed → committed s c t ≡ Some x.value
  pub owned : (c t : ℕ) (x : Version) → s.at c t ≡ Some x → x.status ≡ Pending → (P : Progress) × Runs s t P × (installed P c ≡ Some x.value)
  pub there : (t : ℕ) (P : Progress) (c v : ℕ) → Runs s t P → installed P c ≡ Some v → (x : Version) × (s.at c t ≡ Some x) × (x.status ≡ Pending) × (x.value ≡ v)
  pub missing : (t : ℕ) (P : Progress) (c : ℕ) → Runs s t P → installed P c ≡ None → s.at c t ≡ None
  pub covered : (c w v : ℕ) → committed s c w ≡ Some v → Covers s line c w
  pub stamped : (t : ℕ) (P : Progress) (j : ℕ) (g : ReadEntry) (x : Version) → s.pass t ≡ Some P → nth P.reads j ≡ Some g → W P + j < P.k → s.at g.cell g.stamp ≡ Some x → t ≤ x.read

-- no checked write of Q lies between a checked read of P and P
pub record Inv (s : State) (line : ℕ) : Type 0 where
  pub agrees : Agrees s line
  pub zero : s.pass 0 ≡ None
  pub apart : (t : ℕ) (P : Progress) → s.pass t ≡ Some P → Apart P.writes
  pub sources : (t : ℕ) (P : Progress) (j : ℕ) (g : ReadEntry) → s.pass t ≡ Some P → nth P.reads j ≡ Some g → (g.stamp < t) × (committed s g.cell g.stamp ≡ Some g.value)
  pub crossing : (t u : ℕ) (P Q : Progress) (j v : ℕ) (g : ReadEntry) → s.pass t ≡ Some P → s.pass u ≡ Some Q → nth P.reads j ≡ Some g → W P + R P + j < P.k
      → checked Q g.cell ≡ Some v → g.stamp < u → u < t → ⊥
  pub full : (t : ℕ) (P : Progress) → s.pass t ≡ Some P → P.ended ≡ true → P.k ≡ 2 * (W P + R P)
  pub line_below : (t : ℕ) (P : Progress) → Runs s t P → line ≤ t
