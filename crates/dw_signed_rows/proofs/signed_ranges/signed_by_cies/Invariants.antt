use Rattle.std.proofs.Common.{◌≡◌, map, take}
use Rattle.dw_frame.specs.Views.{cie_of}
use Rattle.dw_signed_rows.specs.SignedRows.{signed_by_cie}
use Rattle.dw_signed_rows.proofs.signed_ranges.signed_by_cies.Given as goal

abbrev pub invariant-loop-cie : goal.invariant-loop-cie
invariant-loop-cie l = l.flags.items ≡ map signed_by_cie (map cie_of (take l.cie-index l.cies))
