use Rattle.std.proofs.Common.{length, ◌-◌, ◌≡◌, ◌≤◌, drop, take}
use Rattle.dw_cached_rows.specs.CachedWalks.{Passes, as_caller, over_cached}
use Rattle.dw_cached_rows.specs.declared.cached_rows.TheConstants.{ROWS}
use Rattle.dw_cached_rows.specs.declared.stack_place.StackPlace.{StackPlace}
use Rattle.dw_cached_rows.proofs.cached_rows.CachedRows.pass_callers.Given as goal

abbrev pub invariant-loop-count : goal.invariant-loop-count
invariant-loop-count g l = record {
  more : l.fn.from ≤ l.count;
  few : l.count ≤ length l.addresses;
  same_length : length l.addresses ≡ length l.fn.addresses;
  last : l.last ≤ ROWS;
  rows : l.self.rows ≡ l.fn.self.rows;
  passes : (begun : StackPlace) → Passes (over_cached l.fn.self.rows l.confirmed (g.M.Memory.bytes l.memory)) (g.M.Memory.bytes l.memory)
      begun (take l.fn.from l.fn.addresses) (as_caller l.fn.place)
      → Passes (over_cached l.fn.self.rows l.confirmed (g.M.Memory.bytes l.memory)) (g.M.Memory.bytes l.memory) begun
      (take l.count l.addresses) l.here;
  rest : drop l.count l.addresses ≡ drop l.count l.fn.addresses;
}

abbrev pub decreases-loop-count : goal.decreases-loop-count
decreases-loop-count g l = length l.initial.addresses - l.count
