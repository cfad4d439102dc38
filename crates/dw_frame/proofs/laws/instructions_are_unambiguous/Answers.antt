use Rattle.dw_frame.proofs.EachInstruction.{one-instruction}
use Rattle.dw_frame.proofs.laws.instructions_are_unambiguous.Goals as goal

pub returns : goal.returns
returns c = one-instruction
