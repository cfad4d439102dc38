use Rattle.dw_eval.proofs.Determined.{numbers_of_evaluations_fit}
use Rattle.dw_eval.proofs.laws.numbers_of_evaluations_fit.Goals as goal

pub returns : goal.returns
returns c = numbers_of_evaluations_fit
