use Rattle.dw_stack.proofs.Unique.{one_fault}
use Rattle.dw_stack.proofs.laws.first_faults_are_unique.Goals as goal

pub returns : goal.returns
returns c = one_fault
