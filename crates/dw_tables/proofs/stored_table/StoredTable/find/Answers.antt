use Rattle.std.proofs.Common.{◌≡◌, ◌-◌, ℕ, List, Some, None, get_or, sym, ap, subst, ◌∙◌, arith}
use Rattle.std.specs.Prelude.{Option, find}
use Rattle.std.specs.Option.{option_map}
use Rattle.std.proofs.lemmas.Option.{get_or_from_slice_get}
use Rattle.dw_tables.specs.declared.table_entries.TableEntry.{TableEntry}
use Rattle.dw_rules.specs.declared.stored_rule.StoredCfa.{StoredCfa}
use Rattle.dw_rules.specs.Rules.{Row, PlacedCfa, PlacedRow}
use Rattle.dw_rules.specs.RowExpressions.{row_expressions}
use Rattle.dw_rules.specs.RowsWithExpressions.{row_with_expressions}
use Rattle.dw_rules.specs.ProgramState.{row_between}
use Rattle.dw_tables.specs.UnwindTables.{has}
use Rattle.dw_rules.specs.Views.{stored_cfa_of, entries_of}
use Rattle.dw_tables.specs.CompiledTable.{StoredSet, StoredRows, rows_to, found_with_expressions, IsEntryCount}
use Rattle.dw_tables.proofs.TableRows.{placed-below, placed-above}
use Rattle.dw_tables.proofs.CompiledTables.{row-read, none-read, cfa-lent, rules-lent}
use Rattle.dw_tables.proofs.stored_table.StoredTable.find.Goals.{then-after-eq0-via-then-after-eq0, then-after-eq0-via-else-after-eq0+then-after-count}
use Rattle.dw_tables.proofs.stored_table.StoredTable.find.Goals as goal

rows-of : {t u : StoredRows} → t ≡ u → t.rows ≡ u.rows
rows-of is = ap (λ (t : StoredRows). t.rows) is

pub lend-register-requires : goal.lend-register-requires
lend-register-requires c =
    let entries = c.self.inside.entries in
    let d : TableEntry = record { start = 0; set = 0 } in
    let n = c.count_up_to_near-after.result - 1 in
    let at : get_or entries n d ≡ c.at-entry.result = get_or_from_slice_get entries n c.at-entry.result d c.at-entry.ensures in
    omega (arith, c.self.invariant.within n d (omega (arith, c.count_up_to_near-after.ensures.bound)), ap (λ (e : TableEntry). e.set) at)

pub returns-then-after-eq0 : goal.returns-then-after-eq0
returns-then-after-eq0 c =
    let entries = c.self.inside.entries in
    let sets = c.self.inside.sets in
    let a = c.args.address in
    let es = row_expressions c.args.expressions in
    let none : find (has a) (rows_to sets entries 0) ≡ None = elim c.then-after-eq0.branch [
      | then-after-eq0-via-then-after-eq0 w ↦
          placed-below entries sets a (subst (IsEntryCount entries a) w.if-after-eq0.true c.count_up_to_near-after.ensures)
      | then-after-eq0-via-else-after-eq0+then-after-count w ↦
          placed-above entries sets a c.count_up_to_near-after.result c.count_up_to_near-after.ensures (w.if-after-count.true ∙ w.count.ensures)
    ] in
    sym (ap (option_map (found_with_expressions es)) none)
    ∙ ap (λ (l : List (PlacedRow × ℕ)). option_map (found_with_expressions es) (find (has a) l)) (rows-of c.self.view_is)

pub new-requires-clause-cfa : goal.new-requires-clause-cfa
new-requires-clause-cfa c =
    let k : StoredSet = record {
      rules = record { cfa = option_map stored_cfa_of c.lend-register.result.0.cfa; rules = entries_of c.lend-register.result.0.entries.now };
      register = c.lend-register.result.1;
    } in
    let cfa : k.rules.cfa ≡ Some (stored_cfa_of c.in-Some.cfa) = ap (λ (o : Option StoredCfa). option_map stored_cfa_of o) c.in-Some.is in
    cfa-lent (row_expressions c.args.expressions) c.args.self.now.rows c.args.address _ (stored_cfa_of c.in-Some.cfa) c.requires
    (row-read c.self.inside.entries c.self.inside.sets c.args.self.now.rows c.args.address c.count_up_to_near-after.result c.start_at-end.result
    c.at-entry.result k (stored_cfa_of c.in-Some.cfa) (rows-of c.self.view_is) c.count_up_to_near-after.ensures (omega arith)
    (omega (arith, c.count.ensures, c.count_up_to_near-after.ensures.bound)) c.at-entry.ensures c.lend-register.ensures.rules
    c.start_at-end.ensures cfa) cfa

pub new-requires-clause-rules : goal.new-requires-clause-rules
new-requires-clause-rules c =
    let k : StoredSet = record {
      rules = record { cfa = option_map stored_cfa_of c.lend-register.result.0.cfa; rules = entries_of c.lend-register.result.0.entries.now };
      register = c.lend-register.result.1;
    } in
    let cfa : k.rules.cfa ≡ Some (stored_cfa_of c.in-Some.cfa) = ap (λ (o : Option StoredCfa). option_map stored_cfa_of o) c.in-Some.is in
    rules-lent (row_expressions c.args.expressions) c.args.self.now.rows c.args.address _ c.requires
    (row-read c.self.inside.entries c.self.inside.sets c.args.self.now.rows c.args.address c.count_up_to_near-after.result c.start_at-end.result
    c.at-entry.result k (stored_cfa_of c.in-Some.cfa) (rows-of c.self.view_is) c.count_up_to_near-after.ensures (omega arith)
    (omega (arith, c.count.ensures, c.count_up_to_near-after.ensures.bound)) c.at-entry.ensures c.lend-register.ensures.rules
    c.start_at-end.ensures cfa)

pub returns-in-Some : goal.returns-in-Some
returns-in-Some c =
    let k : StoredSet = record {
      rules = record { cfa = option_map stored_cfa_of c.lend-register.result.0.cfa; rules = entries_of c.lend-register.result.0.entries.now };
      register = c.lend-register.result.1;
    } in
    let es = row_expressions c.args.expressions in
    let start = c.at-entry.result.start in
    let end = c.start_at-end.result in
    let cfa : k.rules.cfa ≡ Some (stored_cfa_of c.in-Some.cfa) = ap (λ (o : Option StoredCfa). option_map stored_cfa_of o) c.in-Some.is in
    let with : Option PlacedCfa → PlacedRow = λ o. record { start = start; end = end; cfa = o; rules = k.rules.rules } in
    let found : find (has c.args.address) c.args.self.now.rows ≡ Some (row_between start end k.rules, k.register) =
    row-read c.self.inside.entries c.self.inside.sets c.args.self.now.rows c.args.address c.count_up_to_near-after.result end
    c.at-entry.result k (stored_cfa_of c.in-Some.cfa) (rows-of c.self.view_is) c.count_up_to_near-after.ensures (omega arith)
    (omega (arith, c.count.ensures, c.count_up_to_near-after.ensures.bound)) c.at-entry.ensures c.lend-register.ensures.rules
    c.start_at-end.ensures cfa in
    let is : Row × ℕ → Option (Row × ℕ) = λ x. Some x in
    ap (λ (row : Row). is (row, k.register)) (c.new.ensures ∙ ap (λ (o : Option PlacedCfa). row_with_expressions es (with o)) (sym cfa))
    ∙ sym (ap (option_map (found_with_expressions es)) found)

pub returns-in-None : goal.returns-in-None
returns-in-None c =
    let k : StoredSet = record {
      rules = record { cfa = option_map stored_cfa_of c.lend-register.result.0.cfa; rules = entries_of c.lend-register.result.0.entries.now };
      register = c.lend-register.result.1;
    } in
    let es = row_expressions c.args.expressions in
    sym (ap (option_map (found_with_expressions es)) (none-read c.self.inside.entries c.self.inside.sets c.args.self.now.rows c.args.address
    c.count_up_to_near-after.result c.at-entry.result k (rows-of c.self.view_is) c.count_up_to_near-after.ensures (omega arith) c.at-entry.ensures
    c.lend-register.ensures.rules (ap (λ (o : Option StoredCfa). option_map stored_cfa_of o) c.in-None.is)))
