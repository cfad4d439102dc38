use Rattle.dw_frame.proofs.EachInstruction.{exact-instruction}
use Rattle.dw_frame.proofs.laws.instructions_are_exact.Goals as goal

pub returns : goal.returns
returns c = exact-instruction
