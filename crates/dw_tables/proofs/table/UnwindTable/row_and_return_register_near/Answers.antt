use Rattle.std.proofs.Common.{ℕ, IfSome, Option, sym, subst, ◌∙◌}
use Rattle.dw_rules.specs.Rules.{Row}
use Rattle.dw_tables.specs.UnwindTables.{RowTable}
use Rattle.dw_rows.specs.RowLookups.{IsRowUnder}
use Rattle.dw_tables.proofs.CompiledTables.{table-finds, finds-under}
use Rattle.dw_tables.proofs.table.UnwindTable.row_and_return_register_near.Goals as goal

pub returns-clause-row : goal.returns-clause-row
returns-clause-row c =
    c.find.ensures
    ∙ table-finds c.args.self.now c.self.inside.target c.self.inside.expressions c.self.inside.stored_table.rows _ c.args.address
    c.self.view_is

pub returns-clause-under : goal.returns-clause-under
returns-clause-under c =
    let t = c.self.inside in
    subst (λ (x : RowTable). IfSome c.find.result (λ found. IsRowUnder x.target found.0)) c.self.view_is
    (subst (λ (o : Option (Row × ℕ)). IfSome o (λ found. IsRowUnder t.target found.0)) (sym c.find.ensures)
    (finds-under t.expressions t.target c.self.invariant.1 t.stored_table.rows c.args.address c.self.invariant.0))
