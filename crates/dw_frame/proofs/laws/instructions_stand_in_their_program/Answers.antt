use Rattle.dw_frame.proofs.InstructionBounds.{items-stand}
use Rattle.dw_frame.proofs.laws.instructions_stand_in_their_program.Goals as goal

pub returns : goal.returns
returns c = items-stand
