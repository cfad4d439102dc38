use Rattle.std.proofs.Common.{◌≡◌, All, Contains, List, sym, ap, subst, ◌∙◌, arith}
use Rattle.std.specs.List.{sum_by}
use Rattle.std.proofs.lemmas.List.{length-map}
use Rattle.dw_bytes.specs.declared.target.Target.{Target}
use Rattle.dw_stack.specs.Located.{LocatedExpression}
use Rattle.dw_tables.specs.UnwindTables.{expression_bytes}
use Rattle.dw_rows.specs.RowLookups.{IsUnder}
use Rattle.dw_tables.specs.CompiledTable.{LendsFound, found_with_expressions}
use Rattle.dw_tables.proofs.CompiledTables.{table-of, all-under}
use Rattle.dw_tables.proofs.table.UnwindTable.of.Goals as goal

pub returns-clause-table : goal.returns-clause-table
returns-clause-table c =
    table-of c.args.frame.now c.target.result c.in_ok-expressions.expressions c.in_ok-stored_table.stored_table.rows _ c.target.ensures
    (c.in_ok-expressions.ensures.owned ∙ c.borrowed.ensures) c.in_ok-stored_table.ensures.rows

pub invariant_of-result : goal.invariant_of-result
invariant_of-result c =
    let s = c.args.frame.now in
    let same : s.expressions ≡ c.in_ok-expressions.expressions = sym (c.in_ok-expressions.ensures.owned ∙ c.borrowed.ensures) in
    let under : (e : LocatedExpression) → Contains s.expressions e → IsUnder c.target.result e =
    λ e among. subst (λ (t : Target). IsUnder t e) (sym c.target.ensures) (all-under s c.in_ok-stored_table.ensures.rows.checked e among) in (
      subst (λ (es : List LocatedExpression). All (LendsFound es) c.in_ok-stored_table.stored_table.rows) same c.in_ok-stored_table.ensures.rows.lends,
      subst (λ (es : List LocatedExpression). (e : LocatedExpression) → Contains es e → IsUnder c.target.result e) same under,
    )

pub returns-clause-room : goal.returns-clause-room
returns-clause-room c =
    omega (
      arith,
      c.in_ok-stored_table.ensures.few,
      c.in_ok-stored_table.ensures.stored,
      c.in_ok-expressions.ensures.stored,
      length-map c.in_ok-stored_table.stored_table.rows (found_with_expressions c.in_ok-expressions.expressions),
    )

pub returns-clause-counted : goal.returns-clause-counted
returns-clause-counted c =
    omega (
      arith,
      c.in_ok-stored_table.ensures.few,
      ap (λ (es : List LocatedExpression). sum_by expression_bytes es) (c.in_ok-expressions.ensures.owned ∙ c.borrowed.ensures),
      length-map c.in_ok-stored_table.stored_table.rows (found_with_expressions c.in_ok-expressions.expressions),
    )

pub returns-clause-stored : goal.returns-clause-stored
returns-clause-stored c = omega (arith, c.in_ok-stored_table.ensures.stored, c.in_ok-expressions.ensures.stored)
