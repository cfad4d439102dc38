use Rattle.std.proofs.Common.{map}
use Rattle.dw_frame.specs.Views.{fde_of}
use Rattle.dw_rows.specs.AddressIndex.{fde_at}
use Rattle.dw_rows.proofs.sections.Sweeps.{IsSwept}
use Rattle.dw_rows.proofs.index.overlaps.Given as goal

abbrev pub invariant-loop-entry : goal.invariant-loop-entry
invariant-loop-entry l = IsSwept (map (fde_at (map fde_of l.fdes)) l.index) l.last l.entry-index l.end
