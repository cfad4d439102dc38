use Rattle.std.proofs.Common.{length}
use Rattle.dw_stack.specs.Expressions.{operations_in}
use Rattle.dw_stack.proofs.Unique.{one_certificate}
use Rattle.dw_stack.proofs.laws.certificates_are_unique.Goals as goal

pub returns : goal.returns
returns c = λ kind target bytes s t good first second. one_certificate kind (operations_in target bytes)
    (length bytes) s t good.good first second
