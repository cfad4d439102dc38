use Rattle.std.proofs.Common.{◌+◌, ◌<◌, ◌≤◌, ℕ, length, get_or}
use Rattle.dw_rows.specs.declared.index.IndexEntry.{IndexEntry}
use Rattle.dw_rows.proofs.index.count_up_to.Given as goal

abbrev pub invariant-loop-size : goal.invariant-loop-size
invariant-loop-size l = record {
  bound : l.low + l.size ≤ length l.index;
  below : (k : ℕ) (d : IndexEntry) → k < l.low → (get_or l.index k d).start ≤ l.address;
  above : (k : ℕ) (d : IndexEntry) → l.low + l.size ≤ k → k < length l.index → l.address < (get_or l.index k d).start;
}

abbrev pub decreases-loop-size : goal.decreases-loop-size
decreases-loop-size l = l.size

abbrev pub invariant-loop-size-2 : goal.invariant-loop-size-2
invariant-loop-size-2 l = record {
  bound : l.low + l.size ≤ length l.index;
  below : (k : ℕ) (d : IndexEntry) → k < l.low → (get_or l.index k d).start ≤ l.address;
  above : (k : ℕ) (d : IndexEntry) → l.low + l.size ≤ k → k < length l.index → l.address < (get_or l.index k d).start;
}

abbrev pub decreases-loop-size-2 : goal.decreases-loop-size-2
decreases-loop-size-2 l = l.size
