use Rattle.std.proofs.Common.{◌≡◌, ℕ, IfSome, None, Option, Some, sym, subst, ◌∙◌}
use Rattle.dw_rules.specs.Rules.{Row}
use Rattle.dw_tables.specs.UnwindTables.{RowTable, row_at}
use Rattle.dw_rows.specs.RowLookups.{IsRowUnder}
use Rattle.dw_tables.proofs.CompiledTables.{table-finds, finds-under}
use Rattle.dw_tables.proofs.table.UnwindTable.usual_row_and_return_register.Goals as goal

found-row : (found all row : Option (Row × ℕ)) → IfSome found (λ f. Some f ≡ all) → all ≡ row → IfSome found (λ f. row ≡ Some f)
found-row None all row is same = tt
found-row (Some f) all row is same = sym (is ∙ same)

found-under : (P : Row × ℕ → Type 0) (found all : Option (Row × ℕ)) → IfSome found (λ f. Some f ≡ all) → IfSome all P → IfSome found P
found-under P None all is under = tt
found-under P (Some f) all is under = subst (λ (o : Option (Row × ℕ)). IfSome o P) (sym is) under

pub returns-clause-row : goal.returns-clause-row
returns-clause-row c =
    let t = c.self.inside in
    found-row c.find_usual.result _ (row_at c.args.self.now c.args.address) c.find_usual.ensures
    (table-finds c.args.self.now t.target t.expressions t.stored_table.rows _ c.args.address c.self.view_is)

pub returns-clause-under : goal.returns-clause-under
returns-clause-under c =
    let t = c.self.inside in
    subst (λ (x : RowTable). IfSome c.find_usual.result (λ found. IsRowUnder x.target found.0)) c.self.view_is
    (found-under (λ found. IsRowUnder t.target found.0) c.find_usual.result _ c.find_usual.ensures
    (finds-under t.expressions t.target c.self.invariant.1 t.stored_table.rows c.args.address c.self.invariant.0))
