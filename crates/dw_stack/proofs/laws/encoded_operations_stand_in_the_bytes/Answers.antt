use Rattle.dw_stack.proofs.Bytes.{stands_in}
use Rattle.dw_stack.proofs.Encoded.{laid_out}
use Rattle.dw_stack.proofs.laws.encoded_operations_stand_in_the_bytes.Goals as goal

pub returns : goal.returns
returns c = record { laid = laid_out; read = stands_in }
