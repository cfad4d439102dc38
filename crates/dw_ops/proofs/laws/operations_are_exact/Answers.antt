use Rattle.dw_ops.proofs.Lists.{exact-operation}
use Rattle.dw_ops.proofs.laws.operations_are_exact.Goals as goal

pub returns : goal.returns
returns c = exact-operation
