use Rattle.std.proofs.Common.{length}
use Rattle.dw_stack.specs.Expressions.{operations_in}
use Rattle.dw_stack.proofs.paths.Runs.{as_certified}
use Rattle.dw_stack.proofs.Encoded.{laid_out}
use Rattle.dw_stack.proofs.laws.runs_are_as_certified.Goals as goal

pub returns : goal.returns
returns c = λ kind target bytes states good are. as_certified kind (operations_in target bytes) (length bytes)
    (laid_out target bytes (operations_in target bytes) good.encoded) good.good states are
