use Rattle.std.proofs.Common.{◌≡◌, ◌≤◌, ℕ, length}
use Rattle.std.specs.Prelude.{◌||◌}
use Rattle.dw_frame.specs.Views.{cie_of, fde_of}
use Rattle.dw_signed_rows.specs.SignedRanges.{AreInOrder, ends_at, has_signed}
use Rattle.dw_signed_rows.specs.SignedRows.{is_signed_in}
use Rattle.dw_signed_rows.specs.SignedRuns.{IsRunning, is_left_signed}
use Rattle.dw_signed_rows.proofs.signed_rows.push_signed_rows.Given as goal

abbrev pub invariant-loop : goal.invariant-loop
invariant-loop l = record {
  run : IsRunning (cie_of l.cie) (fde_of l.fde) l.instructions l.program;
  parted : (a : ℕ) → (has_signed l.fn.ranges.items a || is_signed_in (cie_of l.cie) (fde_of l.fde) a)
      ≡ (has_signed l.ranges.items a || is_left_signed (cie_of l.cie) (fde_of l.fde) l.instructions l.program run a);
  order : AreInOrder 0 l.ranges.items;
  low : ends_at 0 l.ranges.items ≤ l.program.location;
}

abbrev pub decreases-loop : goal.decreases-loop
decreases-loop l = length l.instructions
