use Rattle.std.proofs.Common.{None, Option, ℕ, ◌+◌, ◌<◌, length, sym, ◌∙◌, arith, rules}
use mathlib.Core.Path.{subst⁻¹}
use Rattle.chains.specs.Chain.{path, next_of}
use Rattle.chains.specs.Store.{Store, store}
use Rattle.chains.specs.Kept.{Kept}
use Rattle.chains.proofs.Paths.{at_some}
use Rattle.chains.proofs.Cutting.{Cutting, cut_start, cut_stay, cut_give, given, stay_shorter, give_shorter, record_lent, touches, count_room, cut_end}
use Rattle.chains.proofs.calls.ChainTableVersionTable.cut.Goals as goal

pub loop-at-init : goal.loop-at-init
loop-at-init c =
    let s = store c.args.self.now.links in
    subst⁻¹ (λ (z : Option ℕ). Cutting s s c.args.cell c.args.stamp None z 0) c.in_ok-at.ensures.led (cut_start s c.args.self.now.kept c.args.cell c.args.stamp c.in_ok-at.ensures.within)

pub bounds-self-i : goal.bounds-self-i
bounds-self-i c = (at_some (store c.loop-at.self.links).records c.loop-at.at c.in-Some.i c.loop-at.invariant.parts.onward c.in-Some.is).within

pub offset_bounds-self-i : goal.offset_bounds-self-i
offset_bounds-self-i c =
    let in' = record_lent c.loop-at.self.kept c.loop-at.invariant c.in-Some.i c.in-Some.is c.args.self.now.kept in
    search rules

pub give_back-requires : goal.give_back-requires
give_back-requires c =
    record {
      touches = touches c.loop-at.self.kept c.loop-at.invariant c.in-Some.i c.in-Some.is;
      room = count_room c.loop-at.self.kept c.loop-at.invariant c.in-Some.i c.in-Some.is;
    }

pub invariant_of-self : goal.invariant_of-self
invariant_of-self c =
    record { kept = subst⁻¹ Kept c.give_back.ensures (given c.loop-at.self.kept c.loop-at.invariant c.in-Some.i c.in-Some.is).kept }

pub loop-at-preserved-then-stays : goal.loop-at-preserved-then-stays
loop-at-preserved-then-stays c =
    cut_stay c.loop-at.self.kept c.loop-at.invariant c.in-Some.i c.in-Some.is (sym c.stays.ensures ∙ c.if-stays.true)

pub loop-at-preserved : goal.loop-at-preserved
loop-at-preserved c =
    subst⁻¹ (λ (z : Store). Cutting (store c.args.self.now.links) z c.args.cell c.args.stamp c.loop-at.newer (next_of c.loop-at.self.links.records.now c.in-Some.i) (c.loop-at.gone + 1)) c.give_back.ensures
    (cut_give c.loop-at.self.kept c.loop-at.invariant c.in-Some.i c.in-Some.is (sym c.stays.ensures ∙ c.if-stays.false))

pub loop-at-smaller-then-stays : goal.loop-at-smaller-then-stays
loop-at-smaller-then-stays c = stay_shorter c.loop-at.self.kept c.loop-at.invariant c.in-Some.i c.in-Some.is

pub loop-at-smaller : goal.loop-at-smaller
loop-at-smaller c =
    subst⁻¹ (λ (z : Store). length (path z.records (next_of c.loop-at.self.links.records.now c.in-Some.i)) < length (path c.loop-at.self.links.records.now c.loop-at.at)) c.give_back.ensures
    (give_shorter c.loop-at.self.kept c.loop-at.invariant c.in-Some.i c.in-Some.is)

pub returns : goal.returns
returns c =
    let done = cut_end c.loop-at.invariant c.in_default.is in
    record { answer = done.answer (omega arith); after = done.cut; unused = done.unused }
