use Rattle.std.proofs.Common.{◌≡◌}
use Rattle.dw_rows.specs.Section.{FrameSection}
use Rattle.dw_tables.specs.UnwindTables.{IsTableOf, RowTable, row_at}
use Rattle.dw_rows.specs.RowLookups.{IsFoundAt}
use Rattle.dw_unwind.specs.Walks.{over_rows, over_section, over_table}
use Rattle.dw_unwind.proofs.ModuleWalks.{likes_same, others_like, through_borrowed, through_modules}
use Rattle.dw_unwind.proofs.WalksOver.{over_a_table, over_what_a_table_gives, over_what_is_found}
use Rattle.dw_unwind.proofs.laws.unwindings_through_what_is_found.Goals as goal

pub returns : goal.returns
returns c = record {
  found = λ modules abi memory.
      through_borrowed (λ (s : FrameSection). s.target) (λ s. over_rows s.target (IsFoundAt s) abi memory) (λ s. over_section s abi memory)
      (λ s. over_what_is_found s abi memory) modules;
  rows = λ tables abi memory.
      through_modules (λ (t : RowTable). t.target) (λ t. over_rows t.target (λ a found. found ≡ row_at t a) abi memory)
      (λ t. over_table t abi memory) (λ t. over_what_a_table_gives t abi memory) tables;
  borrowed = λ tables abi memory.
      through_borrowed (λ (t : RowTable). t.target) (λ t. over_rows t.target (λ a found. found ≡ row_at t a) abi memory)
      (λ t. over_table t abi memory) (λ t. over_what_a_table_gives t abi memory) tables;
  tables = λ sections tables abi memory registers address caller are.
      likes_same (λ (t : RowTable). t.target) (λ t. over_table t abi memory) (λ (s : FrameSection). s.target)
      (λ s. over_section s abi memory) (λ t s. IsTableOf s t) (λ t s is. is.target) (λ t s is. over_a_table s t abi memory is)
      tables sections (others_like IsTableOf sections tables are) registers address caller;
}
