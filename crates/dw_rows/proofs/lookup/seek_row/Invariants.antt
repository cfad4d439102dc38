use Rattle.std.proofs.Common.{◌+◌, ◌-◌, [], length}
use Rattle.dw_frame.specs.Views.{cie_of, fde_of}
use Rattle.dw_rows.specs.RowCursors.{cursor_at, Seeks, above}
use Rattle.dw_rows.proofs.lookup.seek_row.Given as goal

abbrev pub invariant-loop-start : goal.invariant-loop-start
invariant-loop-start l = Seeks (cie_of l.cie) (fde_of l.fde) l.address
    (above [] (cursor_at (cie_of l.cie) l.limit l.state l.instructions))

abbrev pub decreases-loop-start : goal.decreases-loop-start
decreases-loop-start l = l.limit - l.state.location + length l.instructions
