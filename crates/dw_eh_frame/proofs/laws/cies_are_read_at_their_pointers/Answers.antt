use Rattle.dw_eh_frame.proofs.CiesByPointer.{fde-has}
use Rattle.dw_eh_frame.proofs.laws.cies_are_read_at_their_pointers.Goals as goal

pub returns : goal.returns
returns c = fde-has
