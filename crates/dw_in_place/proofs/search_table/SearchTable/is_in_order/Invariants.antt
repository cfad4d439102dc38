use Rattle.std.proofs.Common.{◌≡◌, ℕ, ◌-◌, ◌<◌, ◌≤◌}
use Rattle.dw_in_place.specs.SearchTables.{location_in}
use Rattle.dw_in_place.specs.Views.{table_of}
use Rattle.dw_in_place.proofs.search_table.SearchTable.is_in_order.Given as goal

abbrev pub invariant-loop-entry : goal.invariant-loop-entry
invariant-loop-entry l = record {
  last : l.last ≡ location_in (table_of l.self) (l.entry - 1);
  order : (j k : ℕ) → j ≤ k → k < l.entry → location_in (table_of l.self) j ≤ location_in (table_of l.self) k;
}
