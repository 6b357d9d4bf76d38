use Rattle.std.proofs.Common.{◌≡◌, None, Some, sym, ◌∙◌, arith, rules}
use Rattle.std.proofs.lemmas.Result.{err_from_is_err_and}
use Rattle.words.specs.declared.refusal.Refusal.TheVariants.{NoPlace}
use Rattle.chains.proofs.Inserts.{no_place, insert_touches, inserts}
use Rattle.chains.proofs.calls.ChainTableVersionTable.insert.Goals as goal

pub returns-in_err-free-clause-answer : goal.returns-in_err-free-clause-answer
returns-in_err-free-clause-answer c =
    let t = c.args.self.now in
    let p = err_from_is_err_and c.from_residual-in_err-free.result c.from_residual-in_err-free.ensures.1 in
    let none : t.links.free ≡ None = grind arith in
    let why : c.in_err-free.field-0.0 ≡ NoPlace = grind arith in
    rw (p.1, p.2, why) (no_place t.kept c.in_ok-chain.ensures c.args.stamp (sym c.stamped.ensures.test ∙ sym c.is_some.ensures ∙ c.if-is_some.false) none)

pub take-requires-clause-touches : goal.take-requires-clause-touches
take-requires-clause-touches c =
    let t = c.args.self.now in
    let free : t.links.free ≡ Some c.in_ok-free.free = grind arith in
    insert_touches t.kept c.in_ok-chain.ensures c.place-place.ensures c.in_ok-free.free free

pub invariant_of-self : goal.invariant_of-self
invariant_of-self c =
    let t = c.args.self.now in
    let free : t.links.free ≡ Some c.in_ok-free.free = grind arith in
    record { kept = (inserts t.kept c.in_ok-chain.ensures c.place-place.ensures c.in_ok-free.free free c.args.value (omega arith) _ c.pending.ensures _ c.take.ensures).kept }

pub returns : goal.returns
returns c =
    let t = c.args.self.now in
    let free : t.links.free ≡ Some c.in_ok-free.free = grind arith in
    let done = inserts t.kept c.in_ok-chain.ensures c.place-place.ensures c.in_ok-free.free free c.args.value (omega arith) _ c.pending.ensures _ c.take.ensures in
    record { answer = search rules; after = done.inserted; unused = done.unused }
