use Rattle.std.proofs.Common.{◌≡◌, ◌+◌, ◌≤◌, length, map}
use Rattle.std.proofs.Common.{take}
use Rattle.std.specs.List.{sum_by}
use Rattle.std.specs.Prelude.{IfSome}
use Rattle.dw_frame.specs.Views.{cie_of, fde_of}
use Rattle.dw_rows.specs.AddressIndex.{fde_at}
use Rattle.dw_rows.specs.Listing.{AreCounted}
use Rattle.dw_tables.specs.CompiledTable.{stored_bytes}
use Rattle.dw_tables.specs.NumberedPrograms.{BeganWith}
use Rattle.dw_tables.specs.UnwindTables.{fde_bytes}
use Rattle.dw_tables.proofs.FilledTables.{IsFillingAll}
use Rattle.dw_tables.proofs.stored_table.fill_all.Given as goal

abbrev pub invariant-loop-entry : goal.invariant-loop-entry
invariant-loop-entry l = record {
  filling : IsFillingAll l.frame (map (fde_at (map fde_of l.fdes)) l.index) l.entry-index l.table.end l.table.entries l.table.numbers.sets;
  spent : l.fn.room ≤ l.table.numbers.room + sum_by (fde_bytes l.frame) (take l.entry-index (map (fde_at (map fde_of l.fdes)) l.index));
  counted : AreCounted l.frame.cies l.frame.fdes l.counted;
  length : length l.counted ≡ length l.fn.counted;
  last : IfSome l.last (λ cie. BeganWith l.frame l.table.numbers (cie_of cie));
  stored : stored_bytes l.table.entries l.table.numbers.sets + l.table.numbers.room ≤ l.fn.room;
}
