use Rattle.std.proofs.Common.{inl, ◌∙◌, sym, arith}
use Rattle.std.proofs.lemmas.List.{length-map}
use Rattle.std.proofs.lemmas.Iterator.Consumers.{count_from_yields_List}
use Rattle.chains.specs.Chain.{version_of, stop, path}
use Rattle.chains.proofs.Paths.{path_short}
use Rattle.chains.proofs.Walks.{meets}
use Rattle.chains.proofs.chain.Chain.length.Goals as goal

pub count-requires-clause-fits : goal.count-requires-clause-fits
count-requires-clause-fits c =
    let rs = c.args.self.records.now in
    inl (omega (arith, length-map (path rs c.args.self.first) (stop rs), path_short rs c.args.self.first))

pub returns : goal.returns
returns c =
    let rs = c.args.self.records.now in
    let p = path rs c.args.self.first in
    count_from_yields_List c.args.self c.count.result c.count.ensures.ran (meets c.args.self) ∙ length-map p (stop rs) ∙ sym (length-map p (version_of rs))
