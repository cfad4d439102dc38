use Rattle.dw_frame.proofs.EachInstruction.{programs-are-instructions}
use Rattle.dw_frame.proofs.laws.programs_are_instructions.Goals as goal

pub returns : goal.returns
returns c = programs-are-instructions
