use Rattle.std.proofs.Common.{◌-◌, length, map}
use Rattle.dw_frame.specs.Views.{cie_of, fde_of}
use Rattle.dw_eh_frame.specs.Progress.{IsLast, IsUnderWay}
use Rattle.dw_eh_frame.proofs.records.eh_records_with_copies.Given as goal

abbrev pub invariant-loop-at : goal.invariant-loop-at
invariant-loop-at l = record {
  way : IsUnderWay l.is_aarch64 l.bases l.target l.section l.at (map cie_of l.found.cies.items) (map fde_of l.found.fdes.items);
  last : IsLast l.is_aarch64 l.target l.section (map cie_of l.found.cies.items) l.last;
}

abbrev pub decreases-loop-at : goal.decreases-loop-at
decreases-loop-at l = length l.section - l.at
