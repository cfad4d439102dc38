use Rattle.dw_in_place.proofs.Following.{fde-still}
use Rattle.dw_in_place.proofs.laws.bytes_after_a_section_change_nothing.Goals as goal

pub returns : goal.returns
returns c = fde-still
