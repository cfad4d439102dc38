use Rattle.std.proofs.Common.{length}
use Rattle.dw_stack.specs.Expressions.{operations_in}
use Rattle.dw_stack.proofs.Determined.{one_run}
use Rattle.dw_stack.proofs.Encoded.{laid_out}
use Rattle.dw_stack.proofs.laws.runs_are_determined.Goals as goal

pub returns : goal.returns
returns c = λ kind target bytes good m. one_run m (operations_in target bytes) (length bytes)
    (laid_out target bytes (operations_in target bytes) good.encoded) kind
