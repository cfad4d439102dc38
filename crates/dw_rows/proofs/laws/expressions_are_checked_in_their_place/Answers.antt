use Rattle.dw_rows.proofs.programs.CheckedInPlace.{checked-in-place, never-barred}
use Rattle.dw_rows.proofs.laws.expressions_are_checked_in_their_place.Goals as goal

pub returns : goal.returns
returns c = record { past = checked-in-place; allowed = never-barred }
