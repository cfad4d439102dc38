use Rattle.std.proofs.Common.{◌-◌, length}
use Rattle.std.specs.Prelude.{IfSome}
use Rattle.dw_eh_frame.specs.Views.{IsCieOf}
use Rattle.dw_eh_rows.proofs.SignalsRead.{AreSignals}
use Rattle.dw_eh_rows.proofs.signals.signal_frames.Given as goal

abbrev pub invariant-loop-at : goal.invariant-loop-at
invariant-loop-at l = record {
  ranges : AreSignals l.is_aarch64 l.bases l.target l.section l.at l.ranges.items;
  last : IfSome l.last (IsCieOf l.is_aarch64 l.target l.section);
}

abbrev pub decreases-loop-at : goal.decreases-loop-at
decreases-loop-at l = length l.section - l.at
