use Rattle.std.proofs.Common.{[]}
use Rattle.dw_eh_frame.proofs.Distinct.{distinct-cies, distinct-fdes, distinct-placed}
use Rattle.dw_eh_frame.proofs.laws.copies_are_left_out_in_place.Goals as goal

pub returns : goal.returns
returns c = record {
  cies = distinct-cies [];
  fdes = distinct-fdes [];
  placed = λ target at end records are. distinct-placed target at end [] records are;
}
