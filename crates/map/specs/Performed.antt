-- What a call of a map in memory makes of it: what the rules say.
use Rattle.std.specs.Prelude.{◌≡◌, ℕ}
use Rattle.words.specs.Outcome.{Outcome, refused}
use Rattle.tables.specs.Table.{Table}
use Rattle.rules.specs.declared.call.Call.{Call}
use Rattle.rules.specs.declared.call.Call.TheVariants.{Begin, Pulse, Install, Stamp, Check}
use Rattle.rules.specs.Rules.{outcome}
use Rattle.rules.specs.Beneath.{Beneath}
use Rattle.workers.specs.declared.clock.Tick.{Tick}
use Rattle.workers.specs.declared.clock.Tick.TheVariants.{Begin as Begins, Pulse as Pulses}
use Rattle.workers.specs.declared.steps.Step.{Step}
use Rattle.workers.specs.declared.steps.Step.TheVariants.{Install as Installs, Stamp as Stamps, Check as Checks}
use Rattle.map.specs.declared.crew.Crew.{Crew}
use Rattle.map.specs.declared.plate.PlateMap.{PlateMap}
use Rattle.map.specs.Plate.{plate}

-- the answer and the whole model afterwards are the rules'; the table made the steps of its own contract;
-- a refused call changed nothing
pub record Performed (t : Table) (i : Crew) (call : Call) (answer : Outcome ℕ) (u : Table) (j : Crew) : Type 0 where
  pub after : (answer, plate u j) ≡ outcome t.free (plate t i) call
  pub beneath : Beneath t (plate t i) call answer u
  pub unchanged : (n d : ℕ) → answer ≡ refused n d → (plate u j ≡ plate t i) × (u ≡ t)

-- the calls of each family, as calls of the map
abbrev pub tick_call : Tick → ℕ → ℕ → Call
tick_call Begins w units = Begin w units
tick_call Pulses w units = Pulse w units

abbrev pub step_call : Step → ℕ → Call
step_call Installs w = Install w
step_call Stamps w = Stamp w
step_call Checks w = Check w

-- what a call of a map makes of the map, by what its table means
abbrev pub Did : {T : Type 0} → (T → Table) → PlateMap T → Call → Outcome ℕ → PlateMap T → Type 0
Did meaning m call answer n =
    Performed (meaning m.table.now) m.crew call answer (meaning n.table.now) n.crew
