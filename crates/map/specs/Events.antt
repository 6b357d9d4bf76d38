-- Calls and their answers as events.
use Rattle.std.specs.Prelude.{◌≡◌, ℕ, List, [], ◌∷◌, length, Result}
use Rattle.words.specs.Outcome.{told}
use Rattle.words.specs.declared.refusal.Refusal.{Refusal}
use Rattle.rules.specs.declared.call.Call.{Call}
use Rattle.tables.specs.Table.{Table}
use Rattle.law.specs.History.{Event}
use Rattle.law.specs.Run.{Run}
use Rattle.law.specs.Law.{Lawful}
use Rattle.map.specs.declared.plate.PlateMap.{PlateMap}
use Rattle.map.specs.Plate.{model_of}

-- calls in order, each with its answer, after the events es; the latest event first
abbrev pub with_events : List Call → List (Result ℕ Refusal) → List Event → List Event
with_events [] rs es = es
with_events (c ∷ cs) [] es = es
with_events (c ∷ cs) (r ∷ rs) es = with_events cs rs (record { call = c; answer = told r } ∷ es)

-- every run that has come to the map m goes on, by the events of the calls and their answers, to the map n
abbrev pub GoesOn : {T : Type 0} → (T → Table) → PlateMap T → List Call → List (Result ℕ Refusal) → PlateMap T → Type 0
GoesOn meaning m calls answers n =
    (workers cells : ℕ) (es : List Event) → Run workers cells es (meaning m.table.now) (model_of meaning m)
    → Run workers cells (with_events calls answers es) (meaning n.table.now) (model_of meaning n)

-- one answer for each call, in order; the events are a run; the law holds of them and of the map
pub record Upheld {T : Type 0} (meaning : T → Table) (workers cells : ℕ) (calls : List Call) (answers : List (Result ℕ Refusal)) (m : PlateMap T) : Type 0 where
  pub one_each : length answers ≡ length calls
  pub run : Run workers cells (with_events calls answers []) (meaning m.table.now) (model_of meaning m)
  pub law : Lawful workers cells (with_events calls answers []) (meaning m.table.now) (model_of meaning m)
