use Rattle.dw_stack.proofs.Places.{place_of_some, place_past, place_mono, place_le, count_le}
use Rattle.dw_stack.proofs.laws.places_ascend.Goals as goal

pub returns : goal.returns
returns c = record { begins = place_of_some; ends = place_past; ascends = place_mono; within = place_le; few = count_le }
