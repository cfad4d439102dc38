use Rattle.std.proofs.Common.{length}
use Rattle.dw_frame.specs.Views.{cie_of}
use Rattle.dw_signed_rows.proofs.Programs.{IsLeaving}
use Rattle.dw_signed_rows.proofs.signed_program.is_signed_by_cie.Given as goal

abbrev pub invariant-loop-instruction : goal.invariant-loop-instruction
invariant-loop-instruction l = IsLeaving (cie_of l.cie) l.instructions l.is_signed

abbrev pub decreases-loop-instruction : goal.decreases-loop-instruction
decreases-loop-instruction l = length l.instructions
