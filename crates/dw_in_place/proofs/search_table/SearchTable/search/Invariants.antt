use Rattle.std.proofs.Common.{◌+◌, ◌<◌, ◌≤◌}
use Rattle.dw_in_place.specs.SearchTables.{location_in}
use Rattle.dw_in_place.specs.Views.{table_of}
use Rattle.dw_in_place.proofs.search_table.SearchTable.search.Given as goal

abbrev pub invariant-loop-size : goal.invariant-loop-size
invariant-loop-size l = record {
  some : 0 < l.size;
  within : l.low + l.size ≤ l.self.count;
  begins : location_in (table_of l.self) l.low ≤ l.address;
  next : l.low + l.size < l.self.count → l.address < location_in (table_of l.self) (l.low + l.size);
}

abbrev pub decreases-loop-size : goal.decreases-loop-size
decreases-loop-size l = l.size
