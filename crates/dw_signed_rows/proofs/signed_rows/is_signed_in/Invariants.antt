use Rattle.std.proofs.Common.{◌≡◌, length}
use Rattle.dw_frame.specs.Views.{cie_of, fde_of}
use Rattle.dw_signed_rows.specs.SignedRows.{is_signed_in}
use Rattle.dw_signed_rows.specs.SignedRuns.{IsRunning, is_left_signed}
use Rattle.dw_signed_rows.proofs.signed_rows.is_signed_in.Given as goal

abbrev pub invariant-loop-instructions : goal.invariant-loop-instructions
invariant-loop-instructions l = record {
  run : IsRunning (cie_of l.cie) (fde_of l.fde) l.instructions l.program;
  left : is_signed_in (cie_of l.cie) (fde_of l.fde) l.address
      ≡ is_left_signed (cie_of l.cie) (fde_of l.fde) l.instructions l.program run l.address;
}

abbrev pub decreases-loop-instructions : goal.decreases-loop-instructions
decreases-loop-instructions l = length l.instructions
