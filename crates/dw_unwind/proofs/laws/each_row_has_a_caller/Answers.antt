use Rattle.dw_rows.specs.Section.{FrameSection}
use Rattle.dw_unwind.proofs.OneCaller.{caller_some}
use Rattle.dw_unwind.proofs.laws.each_row_has_a_caller.Goals as goal

pub returns : goal.returns
returns c = λ e abi back (frame : FrameSection) fde row checked among inside.
    caller_some frame.expressions c.rules_under_abis.ensures.each c.each_has_a_depth.ensures c.each_has_an_evaluation.ensures e abi back row
    (c.rows_have_good_expressions.ensures.rows frame checked fde among row inside)
