use Rattle.std.proofs.Common.{length, ◌-◌, ◌≡◌, ◌≤◌, drop, take}
use Rattle.dw_cached_rows.specs.CachedWalks.{Passes, over_cached}
use Rattle.dw_cached_rows.specs.declared.cached_rows.TheConstants.{ROWS}
use Rattle.dw_cached_rows.proofs.cached_rows.CachedRows.walk.Given as goal

abbrev pub invariant-loop-count : goal.invariant-loop-count
invariant-loop-count g l = record {
  few : l.count ≤ length l.addresses;
  same_length : length l.addresses ≡ length l.fn.addresses;
  last : l.last ≤ ROWS;
  rows : l.self.rows ≡ l.fn.self.rows;
  passes : Passes (over_cached l.fn.self.rows l.confirmed (g.M.Memory.bytes l.memory)) (g.M.Memory.bytes l.memory) l.fn.place
      (take l.count l.addresses) l.place;
  rest : drop l.count l.addresses ≡ drop l.count l.fn.addresses;
}

abbrev pub decreases-loop-count : goal.decreases-loop-count
decreases-loop-count g l = length l.initial.addresses - l.count
