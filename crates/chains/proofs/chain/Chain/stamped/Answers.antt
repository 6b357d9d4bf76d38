use Rattle.std.proofs.Common.{◌≡◌, ℕ, eqb, is_some, rules, tests, option_map, sym, ap, ◌∙◌}
use Rattle.std.proofs.lemmas.Iterator.Adapters.{option_map_id}
use Rattle.std.proofs.lemmas.Iterator.Search.{find_from_yields_List}
use Rattle.words.specs.declared.version.Version.{Version}
use Rattle.chains.specs.Chain.{path}
use Rattle.chains.proofs.Walks.{meets, first_held, first_found}
use Rattle.chains.proofs.chain.Chain.stamped.Goals as goal

pub returns : goal.returns
returns c =
    let chain = c.args.self in
    let s = c.args.stamp in
    let found = sym (option_map_id c.find.result) ∙ find_from_yields_List (λ (x : ℕ × Version). eqb x.1.write s) c.find.new.self _ c.find.result c.find.ensures.ran (meets chain) (λ x b q k. search (rules, tests)) in
    let position : c.map.result ≡ option_map (λ (x : ℕ × Version). x.0) c.find.result = search rules in
    let first = position ∙ ap (option_map (λ (x : ℕ × Version). x.0)) found in
    let p = path chain.records.now chain.first in
    record { test = ap is_some first ∙ first_held chain.records.now s p; found = first_found chain.records.now s p c.map.result first }
