use Rattle.std.proofs.Common.{List, subst, sym}
use Rattle.std.specs.List.Sorted.{IsNonDecreasingBy}
use Rattle.dw_tables.specs.declared.table_entries.TableEntry.{TableEntry}
use Rattle.dw_tables.specs.CompiledTable.{entry_start, IsEntryCount}
use Rattle.dw_tables.proofs.TableEntries.{paired-sorted, paired-count}
use Rattle.dw_tables.proofs.table_entries.TableEntries.count_up_to_near.Goals as goal

pub is_near_count-requires : goal.is_near_count-requires
is_near_count-requires c =
    paired-sorted c.self.inside.starts c.self.inside.sets c.self.invariant.even
    (subst (IsNonDecreasingBy entry_start) (sym c.self.view_is) c.requires)

pub returns-then-is_near_count : goal.returns-then-is_near_count
returns-then-is_near_count c =
    subst (λ (l : List TableEntry). IsEntryCount l c.args.address c.args.hint.now) c.self.view_is
    (paired-count c.self.inside.starts c.self.inside.sets c.args.address _ c.self.invariant.even c.if-is_near_count.ensures)
