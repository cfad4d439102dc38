use Rattle.std.proofs.Common.{◌≡◌}
use Rattle.std.specs.Borrow.{Bor}
use Rattle.dw_rows.specs.Section.{FrameSection}
use Rattle.dw_tables.specs.UnwindTables.{RowTable, row_at}
use Rattle.dw_rows.specs.RowLookups.{IsFoundAt}
use Rattle.dw_unwind.specs.Modules.{over_modules_of_rows, over_sections, over_tables, unborrowed}
use Rattle.dw_unwind.proofs.WalksOver.{walks_same}
use Rattle.dw_unwind.proofs.laws.walks_through_what_is_found.Goals as goal

pub returns : goal.returns
returns c = record {
  found = λ modules abi memory.
      walks_same
      (over_modules_of_rows (λ (s : Bor FrameSection). s.now.target) (λ (s : Bor FrameSection). IsFoundAt s.now) abi memory modules)
      (over_sections abi memory (unborrowed modules)) (c.unwindings_through_what_is_found.ensures.found modules abi memory);
  rows = λ tables abi memory.
      walks_same
      (over_modules_of_rows (λ (t : RowTable). t.target) (λ (t : RowTable) address found. found ≡ row_at t address) abi memory tables)
      (over_tables abi memory tables) (c.unwindings_through_what_is_found.ensures.rows tables abi memory);
  borrowed = λ tables abi memory.
      walks_same
      (over_modules_of_rows (λ (t : Bor RowTable). t.now.target) (λ (t : Bor RowTable) address found. found ≡ row_at t.now address)
      abi memory tables)
      (over_tables abi memory (unborrowed tables)) (c.unwindings_through_what_is_found.ensures.borrowed tables abi memory);
  tables = λ sections tables abi memory first limit xs stop are.
      walks_same (over_tables abi memory tables) (over_sections abi memory sections)
      (λ registers address caller. c.unwindings_through_what_is_found.ensures.tables sections tables abi memory registers address caller are)
      first limit xs stop;
}
