use Rattle.std.proofs.Common.{refl, ap, rules}
use Rattle.words.specs.Outcome.{accepted}
use Rattle.std.specs.Vec.{with_item}
use Rattle.rules.specs.Model.{with_commits}
use Rattle.map.specs.Plate.{plate}
use Rattle.map.proofs.Families.{commit_counted}
use Rattle.map.proofs.crew.Crew.commit.Goals as goal

pub returns : goal.returns
returns g c =
    let i = c.args.self.now in
    let e = c.in_ok-seat.ensures in
    let f = c.in_ok-stamp.ensures in
    commit_counted (g.T.VersionTable.meaning c.args.table.now) (g.T.VersionTable.meaning c.end.new.table) i c.args.worker c.worker.result.now c.end.new.self e.0 (search rules) c.worker.ensures.value (accepted c.in_ok-stamp.stamp)
    (record { workers = with_item i.workers c.args.worker c.end.new.self; count = i.count; commits = i.commits; full = i.full }) (λ v. refl)
    c.in_ok-stamp.stamp refl (rw e.1 at f.after) (rw e.1 at f.beneath) _ (ap (with_commits (plate (g.T.VersionTable.meaning c.end.new.table) (record { workers = with_item i.workers c.args.worker c.end.new.self; count = i.count; commits = i.commits; full = i.full }))) c.min-self.ensures) refl
