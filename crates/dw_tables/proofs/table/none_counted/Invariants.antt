use Rattle.std.proofs.Common.{◌≡◌, ℕ, ◌<◌, length, get_or}
use Rattle.dw_rows.specs.Listing.{not_counted}
use Rattle.dw_tables.proofs.table.none_counted.Given as goal

abbrev pub invariant-loop : goal.invariant-loop
invariant-loop l = (k d : ℕ) → k < length l.counted.items → get_or l.counted.items k d ≡ not_counted
