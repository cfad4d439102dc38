use Rattle.dw_eval.proofs.Determined.{evaluation_of_kind}
use Rattle.dw_eval.proofs.laws.outcomes_are_of_their_kind.Goals as goal

pub returns : goal.returns
returns c = evaluation_of_kind
