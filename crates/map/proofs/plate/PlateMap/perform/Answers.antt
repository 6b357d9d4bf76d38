use Rattle.map.proofs.Lift.{one_more_event}
use Rattle.map.proofs.plate.PlateMap.perform.Goals as goal

pub returns : goal.returns
returns g c = record { performed = c.dispatch.ensures; longer = λ workers cells es run. one_more_event workers cells es _ _ _ _ _ _ run c.dispatch.ensures }
