use Rattle.std.proofs.Common.{◌≡◌, drop}
use Rattle.dw_eh_rows.specs.Signals.{is_signal_at}
use Rattle.dw_eh_rows.proofs.signals.is_signal_address.Given as goal

abbrev pub invariant-loop-range : goal.invariant-loop-range
invariant-loop-range l = is_signal_at (drop l.range-index l.ranges) l.address ≡ is_signal_at l.ranges l.address
