use Rattle.std.proofs.Common.{ℕ, ◌+◌, List, Contains, length, map, sym, ap, subst, arith, refl, ◌∙◌}
use Rattle.std.proofs.lemmas.List.{length-map}
use Rattle.dw_frame.specs.Records.{Fde}
use Rattle.dw_frame.specs.Views.{fde_of}
use Rattle.dw_rows.specs.AddressIndex.{IsAddressIndex, IsIndexOf, fde_at}
use Rattle.dw_tables.specs.declared.table_entries.TableEntry.{TableEntry}
use Rattle.dw_tables.specs.CompiledTable.{StoredSet, AreEntries, AreAllRows, rows_to, sets_bytes}
use Rattle.dw_rows.proofs.sections.Indexes.{entry-placed}
use Rattle.dw_rows.proofs.sections.ListedSections.{listed-once}
use Rattle.dw_tables.proofs.CountedRows.{counted-more, entry-found}
use Rattle.dw_tables.proofs.FilledTables.{IsFillingAll, all-begin, all-on, all-done}
use Rattle.dw_tables.specs.UnwindTables.{fde_bytes, all_rows_bytes}
use Rattle.dw_tables.proofs.TableRoom.{sum-further, sum-first, lacks-more, still-lacks}
use Rattle.dw_tables.proofs.stored_table.fill_all.Goals as goal

pub fill-requires-clause-among : goal.fill-requires-clause-among
fill-requires-clause-among c =
    let fdes = c.fdes-fdes.result.now in
    let index = c.index-index.result.now in
    let view = fde_at (map fde_of fdes) in
    let is : IsAddressIndex (map fde_of fdes) index =
    subst (λ (l : List Fde). IsAddressIndex l index) (sym c.fdes-fdes.ensures.fdes) c.index-index.ensures.index in
    let x = c.index-fdes-entry.result in
    let k = c.loop-entry.entry-index in
    let long = length-map index view in
    let placed = entry-placed fdes index k _ x is.each c.loop-entry-test.true c.index-fdes-entry.is in
    subst (λ (l : List Fde). Contains l (fde_of x)) c.fdes-fdes.ensures.fdes
    (is.index_of.from (fde_of x) (k, omega arith, placed))

pub fill-requires-clause-order : goal.fill-requires-clause-order
fill-requires-clause-order c =
    let fdes = c.fdes-fdes.result.now in
    let index = c.index-index.result.now in
    let view = fde_at (map fde_of fdes) in
    let is : IsAddressIndex (map fde_of fdes) index =
    subst (λ (l : List Fde). IsAddressIndex l index) (sym c.fdes-fdes.ensures.fdes) c.index-index.ensures.index in
    let x = c.index-fdes-entry.result in
    let k = c.loop-entry.entry-index in
    let long = length-map index view in
    let placed = entry-placed fdes index k _ x is.each c.loop-entry-test.true c.index-fdes-entry.is in
    let low = c.loop-entry.invariant.filling.next k (fde_of x) (omega arith) (omega arith) in
    omega (arith, low, ap (λ (f : Fde). f.initial_location) placed)

pub fill-requires-clause-table : goal.fill-requires-clause-table
fill-requires-clause-table c = c.loop-entry.invariant.filling.table

pub fill-requires-clause-last : goal.fill-requires-clause-last
fill-requires-clause-last c = c.loop-entry.invariant.last

pub loop-entry-preserved : goal.loop-entry-preserved
loop-entry-preserved c =
    let fdes = c.fdes-fdes.result.now in
    let index = c.index-index.result.now in
    let view = fde_at (map fde_of fdes) in
    let is : IsAddressIndex (map fde_of fdes) index =
    subst (λ (l : List Fde). IsAddressIndex l index) (sym c.fdes-fdes.ensures.fdes) c.index-index.ensures.index in
    let x = c.index-fdes-entry.result in
    let k = c.loop-entry.entry-index in
    let long = length-map index view in
    let placed = entry-placed fdes index k _ x is.each c.loop-entry-test.true c.index-fdes-entry.is in
    let index_of : IsIndexOf c.args.frame.now.fdes (map view index) =
    subst (λ (l : List Fde). IsIndexOf l (map view index)) c.fdes-fdes.ensures.fdes is.index_of in
    let ensured = c.in_ok-count.ensures in
    let end = rw c.in-Some.is at ensured.end in
    let filled = rw c.in-Some.is at ensured.filled in
    let counted = rw c.in-Some.is at ensured.counted in
    let spent = rw c.in-Some.is at ensured.spent in
    let last = rw c.in-Some.is at ensured.last in
    let found = entry-found fdes c.args.frame.now.fdes index k _ x c.fdes-fdes.ensures.fdes is.each c.loop-entry-test.true
    c.index-fdes-entry.is in
    record {
      filling = subst (λ (n : ℕ). IsFillingAll c.args.frame.now (map view index) (k + 1) n c.fill.new.table.entries
          c.fill.new.table.numbers.sets) (sym end)
          (all-on c.args.frame.now (map view index) k c.loop-entry.table.end (fde_of x) c.loop-entry.table.entries
          c.fill.new.table.entries c.loop-entry.table.numbers.sets c.fill.new.table.numbers.sets
          (listed-once _ c.index-index.ensures.listed) index_of (omega arith) placed c.loop-entry.invariant.filling filled);
      counted = counted-more c.args.frame.now.cies c.args.frame.now.fdes c.loop-entry.counted c.count_rows.new.counted _ c.in-Some.count
          (fde_of x) c.loop-entry.invariant.counted c.count_rows.ensures.length c.count_rows.ensures.set c.count_rows.ensures.others
          found counted;
      length = c.count_rows.ensures.length ∙ c.loop-entry.invariant.length;
      spent = omega (
        arith,
        c.loop-entry.invariant.spent,
        spent,
        sum-further (fde_bytes c.args.frame.now) (map view index) k (fde_of x) (omega arith) placed,
      );
      last = last;
      stored = omega (arith, c.loop-entry.invariant.stored, ensured.stored);
    }

-- after all FDEs, the entries are those of a table, and their rows are the section's
both : (c : goal.Joined-checked-5) → AreEntries c.finish.new.self c.close.new.self.numbers.sets
    × AreAllRows c.args.frame.now (rows_to c.close.new.self.numbers.sets c.finish.new.self 0)
both c =
    let fdes = c.fdes-fdes.result.now in
    let index = c.index-index.result.now in
    let view = fde_at (map fde_of fdes) in
    let sets = c.close.new.self.numbers.sets in
    let is : IsAddressIndex (map fde_of fdes) index =
    subst (λ (l : List Fde). IsAddressIndex l index) (sym c.fdes-fdes.ensures.fdes) c.index-index.ensures.index in
    let long = length-map index view in
    let index_of : IsIndexOf c.args.frame.now.fdes (map view index) =
    subst (λ (l : List Fde). IsIndexOf l (map view index)) c.fdes-fdes.ensures.fdes is.index_of in
    let done = all-done c.args.frame.now (map view index) c.loop-entry.entry-index c.loop-entry.table.end c.loop-entry.table.entries
    c.close.new.self.entries c.loop-entry.table.numbers.sets sets index_of
    (omega (arith, c.loop-entry-test.false)) c.loop-entry.invariant.filling c.in_ok-close.ensures.closed in
    subst (λ (l : List TableEntry). AreEntries l sets × AreAllRows c.args.frame.now (rows_to sets l 0))
    (sym c.in_ok-finish.ensures) done

pub returns-clause-entries : goal.returns-clause-entries
returns-clause-entries c = (both c).0

pub returns-clause-rows : goal.returns-clause-rows
returns-clause-rows c = (both c).1

pub loop-entry-init : goal.loop-entry-init
loop-entry-init c = record {
  filling = rw c.in_ok-table.ensures.end (all-begin c.args.frame.now _ _ _ c.in_ok-table.ensures.entries c.in_ok-table.ensures.sets);
  spent = omega (arith, c.in_ok-table.ensures.room);
  counted = c.requires.counted;
  length = refl;
  last = tt;
  stored = omega (
    arith,
    ap (λ (l : List TableEntry). length l) c.in_ok-table.ensures.entries,
    ap (λ (l : List StoredSet). sets_bytes l) c.in_ok-table.ensures.sets,
    c.in_ok-table.ensures.room,
  );
}

pub returns-in_default-clause-refused : goal.returns-in_default-clause-refused
returns-in_default-clause-refused c =
    let fdes = c.fdes-fdes.result.now in
    let index = c.index-index.result.now in
    let view = fde_at (map fde_of fdes) in
    let is : IsAddressIndex (map fde_of fdes) index =
    subst (λ (l : List Fde). IsAddressIndex l index) (sym c.fdes-fdes.ensures.fdes) c.index-index.ensures.index in
    let x = c.index-fdes-entry.result in
    let k = c.loop-entry.entry-index in
    let long = length-map index view in
    let placed = entry-placed fdes index k _ x is.each c.loop-entry-test.true c.index-fdes-entry.is in
    let among = subst (λ (l : List Fde). Contains l (fde_of x)) c.fdes-fdes.ensures.fdes
    (is.index_of.from (fde_of x) (k, omega arith, placed)) in
    (fde_of x, among, rw c.in_default.is at c.in_ok-count.ensures.refused)

pub returns-clause-spent : goal.returns-clause-spent
returns-clause-spent c =
    let s = c.args.frame.now in
    let fdes = c.fdes-fdes.result.now in
    let index = c.index-index.result.now in
    let view = fde_at (map fde_of fdes) in
    let is : IsAddressIndex (map fde_of fdes) index =
    subst (λ (l : List Fde). IsAddressIndex l index) (sym c.fdes-fdes.ensures.fdes) c.index-index.ensures.index in
    let index_of : IsIndexOf s.fdes (map view index) =
    subst (λ (l : List Fde). IsIndexOf l (map view index)) c.fdes-fdes.ensures.fdes is.index_of in
    omega (
      arith,
      c.loop-entry.invariant.spent,
      c.in_ok-close.ensures.spent,
      sum-first (fde_bytes s) s.fdes (map view index) c.loop-entry.entry-index index_of,
    )

pub returns-clause-stored : goal.returns-clause-stored
returns-clause-stored c =
    omega (arith, c.loop-entry.invariant.stored, c.in_ok-close.ensures.stored, ap (λ (l : List TableEntry). length l) c.in_ok-finish.ensures)

pub returns-in_err-count-clause-short : goal.returns-in_err-count-clause-short
returns-in_err-count-clause-short c =
    let s = c.args.frame.now in
    let fdes = c.fdes-fdes.result.now in
    let index = c.index-index.result.now in
    let view = fde_at (map fde_of fdes) in
    let is : IsAddressIndex (map fde_of fdes) index =
    subst (λ (l : List Fde). IsAddressIndex l index) (sym c.fdes-fdes.ensures.fdes) c.index-index.ensures.index in
    let x = c.index-fdes-entry.result in
    let k = c.loop-entry.entry-index in
    let long = length-map index view in
    let placed = entry-placed fdes index k _ x is.each c.loop-entry-test.true c.index-fdes-entry.is in
    let index_of : IsIndexOf s.fdes (map view index) =
    subst (λ (l : List Fde). IsIndexOf l (map view index)) c.fdes-fdes.ensures.fdes is.index_of in
    let why = c.in_err-count.field-0.0 in
    still-lacks c.from_residual-in_err-count.result why c.args.room (all_rows_bytes s) c.from_residual-in_err-count.ensures.1
    (lacks-more why c.loop-entry.table.numbers.room c.args.room (fde_bytes s (fde_of x)) (all_rows_bytes s)
    (λ less. omega (
      arith,
      less,
      c.loop-entry.invariant.spent,
      sum-further (fde_bytes s) (map view index) k (fde_of x) (omega arith) placed,
      sum-first (fde_bytes s) s.fdes (map view index) (k + 1) index_of,
    )) c.in_err-count.ensures.short)

pub returns-in_err-close-clause-short : goal.returns-in_err-close-clause-short
returns-in_err-close-clause-short c =
    let s = c.args.frame.now in
    let fdes = c.fdes-fdes.result.now in
    let index = c.index-index.result.now in
    let view = fde_at (map fde_of fdes) in
    let is : IsAddressIndex (map fde_of fdes) index =
    subst (λ (l : List Fde). IsAddressIndex l index) (sym c.fdes-fdes.ensures.fdes) c.index-index.ensures.index in
    let index_of : IsIndexOf s.fdes (map view index) =
    subst (λ (l : List Fde). IsIndexOf l (map view index)) c.fdes-fdes.ensures.fdes is.index_of in
    let why = c.in_err-close.field-0.0 in
    still-lacks c.from_residual-in_err-close.result why c.args.room (all_rows_bytes s) c.from_residual-in_err-close.ensures.1
    (lacks-more why c.loop-entry.table.numbers.room c.args.room 80 (all_rows_bytes s)
    (λ less. omega (
      arith,
      less,
      c.loop-entry.invariant.spent,
      sum-first (fde_bytes s) s.fdes (map view index) c.loop-entry.entry-index index_of,
    )) c.in_err-close.ensures.short)
