use Rattle.std.proofs.Common.{◌≡◌, ◌-◌, ℕ, Some, get_or, refl, sym, ap, ◌∙◌, arith}
use Rattle.std.specs.Prelude.{Option, find}
use Rattle.std.specs.Option.{option_map}
use Rattle.std.proofs.lemmas.Option.{get_or_from_slice_get}
use Rattle.dw_tables.specs.declared.table_entries.EntrySpan.{EntrySpan}
use Rattle.dw_tables.specs.declared.table_entries.TableEntry.{TableEntry}
use Rattle.dw_rules.specs.declared.stored_rule.StoredCfa.{StoredCfa}
use Rattle.dw_rules.specs.Rules.{Row, PlacedCfa, PlacedRow}
use Rattle.dw_rules.specs.RowExpressions.{row_expressions}
use Rattle.dw_rules.specs.RowsWithExpressions.{row_with_expressions}
use Rattle.dw_rules.specs.ProgramState.{row_between}
use Rattle.dw_tables.specs.UnwindTables.{has}
use Rattle.dw_rules.specs.Views.{stored_cfa_of, entries_of}
use Rattle.dw_tables.specs.CompiledTable.{StoredSet, rows_to, found_with_expressions}
use Rattle.dw_tables.proofs.CompiledTables.{row-read, none-read, cfa-lent, rules-lent}
use Rattle.dw_tables.proofs.stored_table.row_of_span.Goals as goal

abbrev entry-of : EntrySpan → TableEntry
entry-of span = record { start = span.start; set = span.set }

pub lend-register-requires : goal.lend-register-requires
lend-register-requires c =
    let entries = c.args.entries.now in
    let d : TableEntry = record { start = 0; set = 0 } in
    let n = c.requires.span.count - 1 in
    let at : get_or entries n d ≡ (entry-of c.args.span) = get_or_from_slice_get entries n (entry-of c.args.span) d c.requires.span.entry in
    omega (arith, c.requires.entries.within n d (omega (arith, c.requires.span.counted.bound)), ap (λ (e : TableEntry). e.set) at)

pub new-row-requires-clause-cfa : goal.new-row-requires-clause-cfa
new-row-requires-clause-cfa c =
    let k : StoredSet = record {
      rules = record { cfa = option_map stored_cfa_of c.lend-register.result.0.cfa; rules = entries_of c.lend-register.result.0.entries.now };
      register = c.lend-register.result.1;
    } in
    let cfa : k.rules.cfa ≡ Some (stored_cfa_of c.in_ok-lent.field-0) = ap (λ (o : Option StoredCfa). option_map stored_cfa_of o) c.in_ok-lent.was in
    cfa-lent (row_expressions c.args.expressions) (rows_to c.args.sets.now c.args.entries.now 0) c.args.address _ (stored_cfa_of c.in_ok-lent.field-0) c.requires.lends
    (row-read c.args.entries.now c.args.sets.now (rows_to c.args.sets.now c.args.entries.now 0) c.args.address c.requires.span.count c.args.span.end
    (entry-of c.args.span) k (stored_cfa_of c.in_ok-lent.field-0) refl c.requires.span.counted (omega arith)
    c.requires.span.more c.requires.span.entry c.lend-register.ensures.rules
    c.requires.span.next cfa) cfa

pub new-row-requires-clause-rules : goal.new-row-requires-clause-rules
new-row-requires-clause-rules c =
    let k : StoredSet = record {
      rules = record { cfa = option_map stored_cfa_of c.lend-register.result.0.cfa; rules = entries_of c.lend-register.result.0.entries.now };
      register = c.lend-register.result.1;
    } in
    let cfa : k.rules.cfa ≡ Some (stored_cfa_of c.in_ok-lent.field-0) = ap (λ (o : Option StoredCfa). option_map stored_cfa_of o) c.in_ok-lent.was in
    rules-lent (row_expressions c.args.expressions) (rows_to c.args.sets.now c.args.entries.now 0) c.args.address _ c.requires.lends
    (row-read c.args.entries.now c.args.sets.now (rows_to c.args.sets.now c.args.entries.now 0) c.args.address c.requires.span.count c.args.span.end
    (entry-of c.args.span) k (stored_cfa_of c.in_ok-lent.field-0) refl c.requires.span.counted (omega arith)
    c.requires.span.more c.requires.span.entry c.lend-register.ensures.rules
    c.requires.span.next cfa)

pub returns : goal.returns
returns c =
    let k : StoredSet = record {
      rules = record { cfa = option_map stored_cfa_of c.lend-register.result.0.cfa; rules = entries_of c.lend-register.result.0.entries.now };
      register = c.lend-register.result.1;
    } in
    let es = row_expressions c.args.expressions in
    let start = (entry-of c.args.span).start in
    let end = c.args.span.end in
    let cfa : k.rules.cfa ≡ Some (stored_cfa_of c.in_ok-lent.field-0) = ap (λ (o : Option StoredCfa). option_map stored_cfa_of o) c.in_ok-lent.was in
    let with : Option PlacedCfa → PlacedRow = λ o. record { start = start; end = end; cfa = o; rules = k.rules.rules } in
    let found : find (has c.args.address) (rows_to c.args.sets.now c.args.entries.now 0) ≡ Some (row_between start end k.rules, k.register) =
    row-read c.args.entries.now c.args.sets.now (rows_to c.args.sets.now c.args.entries.now 0) c.args.address c.requires.span.count end
    (entry-of c.args.span) k (stored_cfa_of c.in_ok-lent.field-0) refl c.requires.span.counted (omega arith)
    c.requires.span.more c.requires.span.entry c.lend-register.ensures.rules
    c.requires.span.next cfa in
    let is : Row × ℕ → Option (Row × ℕ) = λ x. Some x in
    ap (λ (row : Row). is (row, k.register)) (c.new-row.ensures ∙ ap (λ (o : Option PlacedCfa). row_with_expressions es (with o)) (sym cfa))
    ∙ sym (ap (option_map (found_with_expressions es)) found)

pub returns-in_err-lent : goal.returns-in_err-lent
returns-in_err-lent c =
    let k : StoredSet = record {
      rules = record { cfa = option_map stored_cfa_of c.lend-register.result.0.cfa; rules = entries_of c.lend-register.result.0.entries.now };
      register = c.lend-register.result.1;
    } in
    let es = row_expressions c.args.expressions in
    c.from_residual.ensures
    ∙ sym (ap (option_map (found_with_expressions es)) (none-read c.args.entries.now c.args.sets.now (rows_to c.args.sets.now c.args.entries.now 0) c.args.address
    c.requires.span.count (entry-of c.args.span) k refl c.requires.span.counted c.requires.span.some c.requires.span.entry
    c.lend-register.ensures.rules (ap (λ (o : Option StoredCfa). option_map stored_cfa_of o) c.in_err-lent.was)))
