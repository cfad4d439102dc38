use Rattle.dw_stack.specs.Expressions.{operations_in}
use Rattle.dw_stack.proofs.Bytes.{stands_in}
use Rattle.dw_stack.proofs.Encoded.{laid_out}
use Rattle.dw_stack.proofs.laws.operations_stand_in_the_bytes.Goals as goal

pub returns : goal.returns
returns c = record {
  laid = λ kind target bytes good. laid_out target bytes (operations_in target bytes) good.encoded;
  read = λ kind target bytes good. stands_in target bytes good.encoded;
}
