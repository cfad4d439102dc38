use Rattle.std.proofs.Common.{length}
use Rattle.dw_stack.specs.Expressions.{operations_in}
use Rattle.dw_stack.proofs.paths.Runs.{stands_on_start}
use Rattle.dw_stack.proofs.Encoded.{laid_out}
use Rattle.dw_stack.proofs.laws.runs_stand_on_operations.Goals as goal

pub returns : goal.returns
returns c = λ kind target bytes good. stands_on_start kind (operations_in target bytes) (length bytes)
    (laid_out target bytes (operations_in target bytes) good.encoded) good.good
