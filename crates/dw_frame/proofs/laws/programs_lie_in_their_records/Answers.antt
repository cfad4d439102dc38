use Rattle.dw_frame.proofs.Blocks.{sound-inside}
use Rattle.dw_frame.proofs.laws.programs_lie_in_their_records.Goals as goal

pub returns : goal.returns
returns c = sound-inside
