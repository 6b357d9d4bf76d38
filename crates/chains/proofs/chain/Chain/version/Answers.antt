use Rattle.std.proofs.Common.{◌≡◌, ℕ, rules, option_map, ok_or, sym, ap, ◌∙◌}
use Rattle.std.proofs.lemmas.Iterator.Adapters.{option_map_id}
use Rattle.std.proofs.lemmas.Iterator.Consumers.{nth_from_yields_List}
use Rattle.words.specs.Outcome.{told}
use Rattle.words.specs.declared.refusal.Refusal.TheVariants.{NoVersion}
use Rattle.words.specs.declared.version.Version.{Version}
use Rattle.chains.proofs.Walks.{meets, version_met}
use Rattle.chains.proofs.chain.Chain.version.Goals as goal

pub returns : goal.returns
returns c =
    let chain = c.args.self in
    let there = sym (option_map_id c.nth.result) ∙ nth_from_yields_List c.nth.result c.nth.new.self c.args.position c.nth.ensures.ran (meets chain) in
    let version : c.map.result ≡ option_map (λ (x : ℕ × Version). x.1) c.nth.result = search rules in
    ap told (c.ok_or.ensures.value ∙ ap (λ o. ok_or o NoVersion) (version ∙ ap (option_map (λ (x : ℕ × Version). x.1)) there)) ∙ version_met chain.records.now chain.first c.args.position
