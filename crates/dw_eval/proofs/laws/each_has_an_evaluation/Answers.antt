use Rattle.dw_eval.proofs.Determined.{each_evaluation}
use Rattle.dw_eval.proofs.laws.each_has_an_evaluation.Goals as goal

pub returns : goal.returns
returns c = each_evaluation
