use Rattle.std.proofs.Common.{arith}
use Rattle.spare.specs.Spare.{spare_at}
use Rattle.spare.proofs.Beside.{count_both}
use Rattle.spare.proofs.Layered.{layered_cut}
use Rattle.spare.proofs.layer.SpareLayerVersionTable.cut.Goals as goal

pub returns : goal.returns
returns g c =
    let self = c.args.self.now in
    let cell = c.args.cell in
    let stamp = c.args.stamp in
    let t = g.T.VersionTable.meaning self.below.now in
    let sound = g.T.VersionTable.sound self.below.now in
    let spares = spare_at self.spares.places in
    let count = count_both stamp (spares cell) (t.versions cell) (sound.sinking cell) in
    record {
      answer = grind arith;
      after = layered_cut spares _ t _ cell stamp sound c.cut-2.ensures.after c.in_ok-removed.ensures.after;
    }
