use Rattle.std.proofs.Common.{◌≡◌, List, take}
use Rattle.dw_stack.specs.Located.{all_located}
use Rattle.dw_c_types.specs.declared.fault.TheConstants.{IN_FRAME}
use Rattle.dw_c_types.specs.Slots.{put_into}
use Rattle.dwcheck_c.specs.declared.reports.CExpression.{CExpression}
use Rattle.dwcheck_c.specs.Reports.{AreShown}
use Rattle.dwcheck_c.proofs.reports.write_frame_expressions.Given as goal

abbrev pub invariant-loop-index : goal.invariant-loop-index
invariant-loop-index l = record {
  shown : List CExpression;
  are : AreShown IN_FRAME (all_located (take l.index l.expressions)) shown;
  written : l.slots ≡ put_into shown l.initial.slots;
}
