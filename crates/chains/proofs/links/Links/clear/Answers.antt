use Rattle.std.proofs.Common.{◌-◌, refl, arith}
use Rattle.chains.specs.Store.{Store}
use Rattle.chains.proofs.Clears.{clears}
use Rattle.chains.proofs.links.Links.clear.Goals as goal

pub returns : goal.returns
returns c =
    let l = c.args.self.now in
    let s : Store = record { heads = c.write_heads.new.heads; records = c.write_records.new.records; cells = l.cells; used = l.used; free = c.then_some-self.result; count = l.used - l.cells } in
    let r = c.requires in
    let hk = c.write_heads.auto in
    let rk = c.write_records.auto in
    let done = clears s (record { few = r.few; roomy = r.roomy; headed = omega (arith, r.headed); lent = omega (arith, r.lent) }) c.write_heads.ensures.written c.write_records.ensures.written c.then_some-self.ensures refl in
    record {
      kept = done.kept;
      lists = done.lists;
      free = refl;
      unused = record { cells = refl; used = refl; heads = c.write_heads.ensures.others; records = c.write_records.ensures.others };
    }
