use Rattle.std.proofs.Common.{arith, ◌+◌, ◌/◌}
use Rattle.dw_tables.proofs.table_entries.count_up_to.Goals as goal

pub loop-size-preserved-then-at-address : goal.loop-size-preserved-then-at-address
loop-size-preserved-then-at-address c =
    let i = c.loop-size.invariant in
    let middle = c.loop-size.low + c.loop-size.size / 2 in
    record {
      bound = omega (arith, i.bound);
      below = λ k d lt. let up = c.requires k middle d (omega arith) (omega (arith, i.bound)) in
          omega (arith, up, c.if-at-address.true, c.at.ensures d);
      above = λ k d le lt. i.above k d (omega arith) lt;
    }

pub loop-size-preserved : goal.loop-size-preserved
loop-size-preserved c =
    let i = c.loop-size.invariant in
    let middle = c.loop-size.low + c.loop-size.size / 2 in
    record {
      bound = omega (arith, i.bound);
      below = i.below;
      above = λ k d le lt. let up = c.requires middle k d le lt in omega (arith, up, c.if-at-address.false, c.at.ensures d);
    }
