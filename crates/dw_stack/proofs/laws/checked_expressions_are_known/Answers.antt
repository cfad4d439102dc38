use Rattle.dw_stack.proofs.Stable.{checked_stable}
use Rattle.dw_stack.proofs.laws.checked_expressions_are_known.Goals as goal

pub returns : goal.returns
returns c = checked_stable
