-- Runs: lists of calls with their answers, from the making of a map on, over a table that keeps its contract.
use Rattle.std.specs.Prelude.{◌≡◌, ℕ, List, [], ◌∷◌}
use Rattle.words.specs.Outcome.{Outcome}
use Rattle.tables.specs.Table.{Table, Cleared}
use Rattle.rules.specs.declared.call.Call.{Call}
use Rattle.rules.specs.Model.{Model, new_map}
use Rattle.rules.specs.Rules.{outcome}
use Rattle.law.specs.History.{Event}
use Rattle.rules.specs.Beneath.{Beneath}

-- the events, the latest first, of a map asked for so many workers, with its table's meaning and its
-- model afterwards. Making clears the table. A call is answered by the rules, from the free places
-- that the table then has, and the table makes its steps
pub data Run (workers cells : ℕ) : List Event → Table → Model → Type 0 where
  made : {t u : Table} {m : Model} → Cleared t u → u.cells ≡ cells → m ≡ new_map workers cells → Run workers cells [] u m
  more : {es : List Event} {t u : Table} {m m' : Model} (call : Call) (answer : Outcome ℕ)
      → Run workers cells es t m → outcome t.free m call ≡ (answer, m') → Beneath t m call answer u
      → Run workers cells (record { call = call; answer = answer } ∷ es) u m'
