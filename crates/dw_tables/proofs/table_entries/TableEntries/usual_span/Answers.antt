use Rattle.std.proofs.Common.{List, subst, sym, arith}
use Rattle.std.specs.List.Sorted.{IsNonDecreasingBy}
use Rattle.dw_tables.specs.declared.table_entries.EntrySpan.{EntrySpan}
use Rattle.dw_tables.specs.declared.table_entries.TableEntry.{TableEntry}
use Rattle.dw_tables.specs.CompiledTable.{IsSpanOf, entry_start}
use Rattle.dw_tables.proofs.TableEntries.{paired-sorted, span-around}
use Rattle.dw_tables.proofs.table_entries.TableEntries.usual_span.Goals as goal

pub at-requires : goal.at-requires
at-requires c = omega (arith, c.self.invariant.even, c.in_ok-start.ensures.more, c.in_ok-start.ensures.some)

pub returns : goal.returns
returns c =
    let starts = c.self.inside.starts in
    let sets = c.self.inside.sets in
    let even = c.self.invariant.even in
    let span : EntrySpan = record { start = c.in_ok-start.start; end = c.in_ok-start.end; set = c.at.result } in
    let up = paired-sorted starts sets even (subst (IsNonDecreasingBy entry_start) (sym c.self.view_is) c.requires) in
    subst (λ (l : List TableEntry). IsSpanOf l c.args.address span) c.self.view_is
    (span-around starts sets c.args.address c.guess-count.result span even up c.in_ok-start.ensures c.at.ensures)
