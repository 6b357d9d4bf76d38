use Rattle.map.proofs.plate.PlateMap.close.Goals as goal

pub returns : goal.returns
returns g c = c.close.ensures (g.T.VersionTable.meaning c.args.self.now.table.now)
