use Rattle.map.proofs.plate.PlateMap.look.Goals as goal

pub returns : goal.returns
returns g c = c.look.ensures (g.T.VersionTable.meaning c.args.self.now.table.now)
