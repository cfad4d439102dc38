use Rattle.dw_unwind.proofs.GivenFrames.{after_one_more, given_and_ended, given_and_filled, given_and_more, one_more_given}
use Rattle.dw_unwind.proofs.laws.frames_that_are_given_are_a_walk.Goals as goal

pub returns : goal.returns
returns g c = record {
  more = λ unwinder abi memory from xs next given gives. (
    one_more_given (g.U.Unwinder.unwinds unwinder abi memory) from xs next given gives,
    after_one_more from xs next,
  );
  ends = λ unwinder abi memory first begin limit xs stop.
      given_and_ended (g.U.Unwinder.unwinds unwinder abi memory) first begin limit xs stop;
  fills = λ unwinder abi memory first begin limit xs.
      given_and_filled (g.U.Unwinder.unwinds unwinder abi memory) first begin limit xs;
  begins = λ unwinder abi memory first begin limit xs always.
      given_and_more (g.U.Unwinder.unwinds unwinder abi memory) first always begin limit xs;
}
