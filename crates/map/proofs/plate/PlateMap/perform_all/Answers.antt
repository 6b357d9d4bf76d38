use Rattle.std.proofs.Common.{vec_items, rules}
use Rattle.rules.specs.declared.call.Call.TheVariants.{Begin}
use Rattle.map.proofs.Events.{goes_on_push}
use Rattle.map.proofs.plate.PlateMap.perform_all.Goals as goal

pub loop-call-preserved : goal.loop-call-preserved
loop-call-preserved g c = (
  search rules,
  search rules,
  goes_on_push g.T.VersionTable.meaning c.args.self.now c.loop-call.self c.args.calls.now (vec_items c.loop-call.answers) c.loop-call.call-index c.perform-answer.new.self
      (vec_items c.push_reserved.new.self) (Begin 0 0) c.perform-answer.result (search rules) (search rules) c.loop-call-test.true c.loop-call.invariant.2 c.perform-answer.ensures.longer,
)
