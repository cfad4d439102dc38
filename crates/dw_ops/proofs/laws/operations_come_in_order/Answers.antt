use Rattle.dw_ops.proofs.Lists.{next-operation, next-fault, no-operation}
use Rattle.dw_ops.proofs.laws.operations_come_in_order.Goals as goal

pub returns : goal.returns
returns c = record { operation = next-operation; fault = next-fault; nothing = no-operation }
