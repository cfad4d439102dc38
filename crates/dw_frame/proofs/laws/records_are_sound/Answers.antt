use Rattle.dw_frame.proofs.RecordBounds.{entries-sound}
use Rattle.dw_frame.proofs.laws.records_are_sound.Goals as goal

pub returns : goal.returns
returns c = entries-sound
