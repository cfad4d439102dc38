use Rattle.dw_frame.proofs.EachInstruction.{next-instruction, next-fault, no-instruction}
use Rattle.dw_frame.proofs.laws.instructions_come_in_order.Goals as goal

pub returns : goal.returns
returns c = record { instruction = next-instruction; fault = next-fault; nothing = no-instruction }
