use Rattle.std.proofs.Common.{◌≡◌}
use Rattle.dw_tables.specs.UnwindTables.{row_at}
use Rattle.dw_rows.specs.RowLookups.{IsFoundAt}
use Rattle.dw_unwind.specs.Walks.{over_rows, over_section, over_table}
use Rattle.dw_unwind.proofs.WalksOver.{over_a_table, over_what_a_table_gives, over_what_is_found, walks_same}
use Rattle.dw_unwind.proofs.laws.walks_over_what_is_found.Goals as goal

pub returns : goal.returns
returns c = record {
  found = λ frame abi memory.
      walks_same (over_rows frame.target (IsFoundAt frame) abi memory) (over_section frame abi memory)
      (over_what_is_found frame abi memory);
  rows = λ table abi memory.
      walks_same (over_rows table.target (λ address found. found ≡ row_at table address) abi memory) (over_table table abi memory)
      (over_what_a_table_gives table abi memory);
  table = λ frame table abi memory first limit xs stop is.
      walks_same (over_table table abi memory) (over_section frame abi memory) (over_a_table frame table abi memory is) first limit xs stop;
}
