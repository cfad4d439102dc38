use Rattle.std.proofs.Common.{◌-◌, ◌≤◌, length}
use Rattle.std.specs.Prelude.{IfSome}
use Rattle.dw_eh_frame.specs.Views.{IsCieOf}
use Rattle.dw_in_place.specs.Scans.{ComesTo}
use Rattle.dw_in_place.specs.Views.{section_of}
use Rattle.dw_in_place.proofs.scan.first_covering.Given as goal

abbrev pub invariant-loop-at : goal.invariant-loop-at
invariant-loop-at l = record {
  inside : l.at ≤ length l.section.bytes.now;
  comes : ComesTo (section_of l.section) l.address l.at;
  last : IfSome l.last (IsCieOf l.section.is_aarch64 l.section.target l.section.bytes.now);
}

abbrev pub decreases-loop-at : goal.decreases-loop-at
decreases-loop-at l = length l.section.bytes.now - l.at
