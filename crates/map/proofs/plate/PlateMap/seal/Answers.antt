use Rattle.map.proofs.plate.PlateMap.seal.Goals as goal

pub returns : goal.returns
returns g c = c.seal.ensures (g.T.VersionTable.meaning c.args.self.now.table.now)
