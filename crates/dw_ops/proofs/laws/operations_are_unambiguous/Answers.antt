use Rattle.dw_ops.proofs.Lists.{one-operation}
use Rattle.dw_ops.proofs.laws.operations_are_unambiguous.Goals as goal

pub returns : goal.returns
returns c = one-operation
