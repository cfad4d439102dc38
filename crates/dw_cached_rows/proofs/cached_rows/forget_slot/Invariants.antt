use Rattle.std.proofs.Common.{◌≡◌, ◌<◌, ◌≤◌, ℕ, length}
use Rattle.dw_cached_rows.specs.CachedRows.{entry_at, without_slot}
use Rattle.dw_cached_rows.proofs.cached_rows.forget_slot.Given as goal

abbrev pub invariant-loop-index : goal.invariant-loop-index
invariant-loop-index l = record {
  same_length : length l.rows ≡ length l.fn.rows;
  before : (index : ℕ) → index < l.index → entry_at l.rows index ≡ without_slot l.slot (entry_at l.fn.rows index);
  from_here : (index : ℕ) → l.index ≤ index → entry_at l.rows index ≡ entry_at l.fn.rows index;
}
