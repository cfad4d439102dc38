use Rattle.dw_ops.proofs.Lists.{expressions-are-operations}
use Rattle.dw_ops.proofs.laws.expressions_are_operations.Goals as goal

pub returns : goal.returns
returns c = expressions-are-operations
