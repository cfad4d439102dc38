use Rattle.std.proofs.Common.{◌-◌, length}
use Rattle.std.specs.Prelude.{IfSome}
use Rattle.dw_eh_frame.specs.Views.{IsCieOf}
use Rattle.dw_eh_rows.specs.Counting.{IsCounted}
use Rattle.dw_eh_rows.proofs.counts.count_records.Given as goal

abbrev pub invariant-loop-at : goal.invariant-loop-at
invariant-loop-at l = record {
  counted : IsCounted l.is_aarch64 l.bases l.target l.section l.at l.tally l.context;
  last : IfSome l.last (IsCieOf l.is_aarch64 l.target l.section);
}

abbrev pub decreases-loop-at : goal.decreases-loop-at
decreases-loop-at l = length l.section - l.at
