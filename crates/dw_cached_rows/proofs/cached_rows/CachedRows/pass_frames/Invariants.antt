use Rattle.std.proofs.Common.{length, ◌-◌, ◌≡◌, ◌≤◌, drop, take}
use Rattle.dw_cached_rows.specs.CachedWalks.{over_cached}
use Rattle.dw_cached_rows.specs.RegisterWalks.{WalksWith}
use Rattle.dw_cached_rows.specs.declared.cached_rows.TheConstants.{ROWS}
use Rattle.dw_cached_rows.specs.declared.register_place.RegisterPlace.{RegisterPlace}
use Rattle.dw_cached_rows.proofs.cached_rows.CachedRows.pass_frames.Given as goal

abbrev pub invariant-loop-count : goal.invariant-loop-count
invariant-loop-count g l = record {
  more : l.fn.from ≤ l.count;
  few : l.count ≤ length l.frames;
  same_length : length l.frames ≡ length l.fn.frames;
  last : l.last ≤ ROWS;
  rows : l.self.rows ≡ l.fn.self.rows;
  walks : (begun : RegisterPlace)
      → WalksWith (over_cached l.fn.self.rows l.confirmed (g.M.Memory.bytes l.memory)) begun (take l.fn.from l.fn.frames) l.fn.place
      → WalksWith (over_cached l.fn.self.rows l.confirmed (g.M.Memory.bytes l.memory)) begun (take l.count l.frames) l.place;
  rest : drop l.count l.frames ≡ drop l.count l.fn.frames;
}

abbrev pub decreases-loop-count : goal.decreases-loop-count
decreases-loop-count g l = length l.initial.frames - l.count
