use Rattle.std.proofs.Common.{◌≡◌, ◌++◌, ◌⊎◌, ◌≤◌, List, length, map}
use Rattle.dw_stack.specs.Located.{located_of}
use Rattle.dw_c_types.specs.declared.fault.TheConstants.{IN_LISTS}
use Rattle.dw_c_types.specs.Slots.{put_into}
use Rattle.dwcheck_c.specs.declared.reports.CExpression.{CExpression}
use Rattle.dwcheck_c.specs.Reports.{AreShown}
use Rattle.dwcheck_c.proofs.reports.write_list_expressions.Given as goal

abbrev pub invariant-loop-offset : goal.invariant-loop-offset
invariant-loop-offset l = record {
  whole : map located_of l.yielded ++ l.offset-iterator ≡ l.fn.expressions;
  shown : (before old : List CExpression) → l.initial.slots ≡ put_into before old → l.from ≡ length before
      → (outs : List CExpression) × AreShown IN_LISTS (map located_of l.yielded) outs × (l.slots ≡ put_into (before ++ outs) old)
      × ((l.count ≡ length (before ++ outs)) ⊎ ((length l.slots ≤ l.count) × (length l.slots ≤ length (before ++ outs))));
}
