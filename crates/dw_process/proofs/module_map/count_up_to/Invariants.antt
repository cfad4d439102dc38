use Rattle.std.proofs.Common.{◌+◌, ◌<◌, ◌≤◌, ℕ, length, get_or}
use Rattle.dw_process.proofs.module_map.count_up_to.Given as goal

abbrev pub invariant-loop-size : goal.invariant-loop-size
invariant-loop-size l = record {
  bound : l.low + l.size ≤ length l.firsts;
  below : (k d : ℕ) → k < l.low → get_or l.firsts k d ≤ l.address;
  above : (k d : ℕ) → l.low + l.size ≤ k → k < length l.firsts → l.address < get_or l.firsts k d;
}

abbrev pub decreases-loop-size : goal.decreases-loop-size
decreases-loop-size l = l.size

abbrev pub invariant-loop-size-2 : goal.invariant-loop-size-2
invariant-loop-size-2 l = record {
  bound : l.low + l.size ≤ length l.firsts;
  below : (k d : ℕ) → k < l.low → get_or l.firsts k d ≤ l.address;
  above : (k d : ℕ) → l.low + l.size ≤ k → k < length l.firsts → l.address < get_or l.firsts k d;
}

abbrev pub decreases-loop-size-2 : goal.decreases-loop-size-2
decreases-loop-size-2 l = l.size
