use Rattle.std.proofs.Common.{length}
use Rattle.dw_stack.specs.Expressions.{operations_in}
use Rattle.dw_stack.proofs.Unique.{one_depth}
use Rattle.dw_stack.proofs.laws.depths_are_unique.Goals as goal

pub returns : goal.returns
returns c = λ kind target bytes d e here there. one_depth kind (operations_in target bytes) (length bytes) d e here there
