use Rattle.map.proofs.plate.PlateMap.pulse.Goals as goal

pub returns : goal.returns
returns g c = c.tick.ensures (g.T.VersionTable.meaning c.args.self.now.table.now)
