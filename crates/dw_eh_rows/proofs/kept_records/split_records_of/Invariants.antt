use Rattle.std.proofs.Common.{◌-◌, length, map}
use Rattle.std.specs.Prelude.{IfSome}
use Rattle.dw_frame.specs.Views.{cie_of}
use Rattle.dw_rules.specs.Initial.{AreLeftBy}
use Rattle.dw_eh_frame.specs.Views.{IsCieOf}
use Rattle.dw_eh_rows.specs.Splitting.{IsSplit, parts_of}
use Rattle.dw_eh_rows.proofs.kept_records.split_records_of.Given as goal

abbrev pub invariant-loop-at : goal.invariant-loop-at
invariant-loop-at l = record {
  split : IsSplit l.is_aarch64 l.bases l.target l.section l.at (parts_of l.split);
  left : AreLeftBy (map cie_of l.split.cies.items) l.split.initial;
  last : IfSome l.last (IsCieOf l.is_aarch64 l.target l.section);
}

abbrev pub decreases-loop-at : goal.decreases-loop-at
decreases-loop-at l = length l.section - l.at
