use Rattle.std.proofs.Common.{arith, ◌+◌, ◌*◌, ◌/◌, inl, inr}
use Rattle.std.proofs.lemmas.Bool.{cases_lt}
use Rattle.std.proofs.lemmas.List.{get_or_default}
use Rattle.dw_process.proofs.module_map.count_up_to.Goals as goal

pub loop-size-preserved : goal.loop-size-preserved
loop-size-preserved c =
    let i = c.loop-size.invariant in
    let s = c.stride-low.ensures in
    let q = c.loop-size.size / 4 in
    let starts = c.args.firsts.now in
    record {
      bound = omega (arith, i.bound, s.bound);
      below = λ k d lt. elim (cases_lt 0 c.stride-low.result) [
        | inl some ↦ let up = c.requires k (c.loop-size.low + c.stride-low.result) d (omega arith) (omega (arith, i.bound, s.bound)) in
            let e = get_or_default starts (c.loop-size.low + c.stride-low.result) d 0 (omega (arith, i.bound, s.bound)) in
            omega (arith, up, e, s.below some)
        | inr none ↦ i.below k d (omega arith)
      ];
      above = λ k d le lt. elim (cases_lt c.stride-low.result (3 * q)) [
        | inl few ↦ let up = c.requires (c.loop-size.low + c.stride-low.result + q) k d (omega (arith, s.bound)) lt in
            let e = get_or_default starts (c.loop-size.low + c.stride-low.result + q) d 0 (omega (arith, s.bound, lt, le)) in
            omega (arith, up, e, s.above few)
        | inr all ↦ i.above k d (omega (arith, s.bound)) lt
      ];
    }

pub returns-else-firsts-low : goal.returns-else-firsts-low
returns-else-firsts-low c =
    let i = c.loop-size-2.invariant in
    record {
      bound = omega (arith, i.bound);
      below = i.below;
      above = λ k d le lt.
          let up = c.requires c.loop-size-2.low k 0 le lt in
          let e = get_or_default c.args.firsts.now k d 0 lt in
          omega (arith, up, e, c.if-firsts-low.false);
    }
