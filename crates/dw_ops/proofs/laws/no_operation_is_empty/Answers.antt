use Rattle.dw_ops.proofs.Exact.{some-bytes}
use Rattle.dw_ops.proofs.laws.no_operation_is_empty.Goals as goal

pub returns : goal.returns
returns c = some-bytes
