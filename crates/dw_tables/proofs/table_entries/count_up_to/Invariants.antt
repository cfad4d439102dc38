use Rattle.std.proofs.Common.{◌+◌, ◌<◌, ◌≤◌, ℕ, length, get_or}
use Rattle.dw_tables.proofs.table_entries.count_up_to.Given as goal

abbrev pub invariant-loop-size : goal.invariant-loop-size
invariant-loop-size l = record {
  bound : l.low + l.size ≤ length l.starts;
  below : (k d : ℕ) → k < l.low → get_or l.starts k d ≤ l.address;
  above : (k d : ℕ) → l.low + l.size ≤ k → k < length l.starts → l.address < get_or l.starts k d;
}

abbrev pub decreases-loop-size : goal.decreases-loop-size
decreases-loop-size l = l.size
