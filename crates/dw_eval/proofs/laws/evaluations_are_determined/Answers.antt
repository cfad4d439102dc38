use Rattle.dw_eval.proofs.Determined.{one_evaluation}
use Rattle.dw_eval.proofs.laws.evaluations_are_determined.Goals as goal

pub returns : goal.returns
returns c = one_evaluation
