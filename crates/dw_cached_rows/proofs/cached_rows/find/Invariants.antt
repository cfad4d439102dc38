use Rattle.std.proofs.Common.{◌≡◌, ◌≤◌, ◌<◌, ◌+◌, ℕ, false}
use Rattle.dw_cached_rows.specs.CachedRows.{entry_at, is_usable}
use Rattle.dw_cached_rows.proofs.cached_rows.find.Given as goal

abbrev pub invariant-loop-way : goal.invariant-loop-way
invariant-loop-way l =
    (index : ℕ) → l.first ≤ index → index < l.first + l.way → is_usable l.confirmed l.key (entry_at l.rows index) ≡ false
