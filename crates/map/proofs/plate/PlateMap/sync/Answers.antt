use Rattle.map.proofs.plate.PlateMap.sync.Goals as goal

pub returns : goal.returns
returns g c = c.sync.ensures (g.T.VersionTable.meaning c.args.self.now.table.now)
