use Rattle.std.proofs.Common.{None}
use Rattle.dw_stack.proofs.Whole.{good_faultless}
use Rattle.dw_stack.proofs.laws.good_expressions_have_no_fault.Goals as goal

pub returns : goal.returns
returns c = record {
  alone = λ kind target bytes f good is. good_faultless kind target bytes None f tt good is;
  given = λ kind target bytes given f good right is. good_faultless kind target bytes given f right good is;
}
