use Rattle.std.proofs.Common.{length, ap, ◌∙◌, arith}
use Rattle.std.proofs.lemmas.List.{length-map}
use Rattle.chains.specs.Chain.{version_of}
use Rattle.chains.specs.Store.{store, path_of, list}
use Rattle.chains.proofs.Sums.{sum_same}
use Rattle.chains.proofs.Changes.{own_list}
use Rattle.chains.proofs.table.ChainTable.records.Goals as goal

pub returns-clause-exact : goal.returns-clause-exact
returns-clause-exact c =
    let s = store c.args.self.now.links in
    let kept = c.args.self.now.kept in
    let same = sum_same s.cells (λ q. length (list s q)) (λ q. length (path_of s q)) (λ q l. ap length (own_list s q l) ∙ length-map (path_of s q) (version_of s.records)) in
    record { shared = λ q. omega (arith, same, kept.full, kept.counted) }
