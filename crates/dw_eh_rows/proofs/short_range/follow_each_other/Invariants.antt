use Rattle.dw_eh_rows.proofs.ShortRanges.{AreSpread}
use Rattle.dw_eh_rows.proofs.short_range.follow_each_other.Given as goal

abbrev pub invariant-loop-range : goal.invariant-loop-range
invariant-loop-range l = AreSpread l.ranges l.range-index l.end
