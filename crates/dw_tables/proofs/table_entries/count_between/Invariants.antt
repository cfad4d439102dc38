use Rattle.std.proofs.Common.{◌+◌, ◌≤◌, length}
use Rattle.dw_tables.proofs.table_entries.count_between.Given as goal

abbrev pub invariant-loop-size : goal.invariant-loop-size
invariant-loop-size l = l.low + l.size ≤ length l.starts

abbrev pub decreases-loop-size : goal.decreases-loop-size
decreases-loop-size l = l.size
