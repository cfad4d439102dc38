use Rattle.std.proofs.Common.{◌+◌, ◌≤◌}
use Rattle.dw_in_place.proofs.search_table.guess_entry.Given as goal

abbrev pub invariant-loop-size : goal.invariant-loop-size
invariant-loop-size l = l.low + l.size ≤ l.count

abbrev pub decreases-loop-size : goal.decreases-loop-size
decreases-loop-size l = l.size
