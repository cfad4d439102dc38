use Rattle.dw_stack.proofs.FaultsInside.{fault-inside}
use Rattle.dw_stack.proofs.laws.expression_faults_stand_inside.Goals as goal

pub returns : goal.returns
returns c = fault-inside
