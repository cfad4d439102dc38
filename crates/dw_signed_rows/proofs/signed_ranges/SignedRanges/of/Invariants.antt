use Rattle.std.proofs.Common.{map}
use Rattle.dw_frame.specs.Views.{fde_of}
use Rattle.dw_rows.specs.AddressIndex.{fde_at}
use Rattle.dw_signed_rows.proofs.Sections.{AreSignedUpTo}
use Rattle.dw_signed_rows.proofs.signed_ranges.SignedRanges.of.Given as goal

abbrev pub invariant-loop-entry : goal.invariant-loop-entry
invariant-loop-entry l = AreSignedUpTo l.frame (map (fde_at (map fde_of l.fdes)) l.index) l.entry-index l.ranges.items
