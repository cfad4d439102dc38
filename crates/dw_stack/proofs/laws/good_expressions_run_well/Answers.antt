use Rattle.dw_stack.proofs.Whole.{good_expressions_run_well}
use Rattle.dw_stack.proofs.laws.good_expressions_run_well.Goals as goal

pub returns : goal.returns
returns c = good_expressions_run_well
