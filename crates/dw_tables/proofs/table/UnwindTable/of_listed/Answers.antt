use Rattle.std.proofs.Common.{◌≡◌, All, Contains, List, length, ap, subst, sym, ◌∙◌, arith}
use Rattle.dw_bytes.specs.declared.target.Target.{Target}
use Rattle.dw_stack.specs.Located.{LocatedExpression}
use Rattle.dw_rows.specs.RowLookups.{IsUnder}
use Rattle.dw_rows.specs.Section.{FrameSection, IsChecked}
use Rattle.dw_tables.specs.CompiledTable.{LendsFound}
use Rattle.dw_tables.proofs.CompiledTables.{table-of, all-under}
use Rattle.dw_tables.proofs.CountedRows.{no-faulty, taken}
use Rattle.dw_tables.proofs.FilledTables.{all-placed}
use Rattle.dw_tables.proofs.table.UnwindTable.of_listed.Goals as goal

pub of_listed-requires : goal.of_listed-requires
of_listed-requires c = record {
  counted = rw c.deref_mut.ensures.value (c.in_ok-counted.ensures c.args.frame.listed.cies c.args.frame.listed.fdes);
}

pub returns-in_default-clause-none : goal.returns-in_default-clause-none
returns-in_default-clause-none c checked = no-faulty c.args.frame.listed checked (rw c.in_default.is at c.in_ok-rows.ensures.refused)

pub into_checked-requires-clause-counted : goal.into_checked-requires-clause-counted
into_checked-requires-clause-counted c =
    let counts = c.of_listed.new.counted in
    let long : length counts ≡ c.in_ok-counted.counted.len = omega (arith, c.in_ok-rows.ensures.length, c.deref_mut.ensures.len) in
    rw (taken counts _ c.deref.result.now c.in_ok-counted.counted.len c.deref.ensures.value long) c.in_ok-rows.ensures.counted

pub invariant_of-table : goal.invariant_of-table
invariant_of-table c =
    let s = c.args.frame.listed in
    let checked : IsChecked s = subst IsChecked (c.frame.view_is ∙ c.in-Ok.ensures.frame) c.frame.invariant.checked in
    let placed = all-placed s c.in-Some.stored_table.rows (rw c.in-Some.is at c.in_ok-rows.ensures.rows) checked in
    let same : s.expressions ≡ c.in_ok-expressions.expressions =
    sym (c.in_ok-expressions.ensures.owned ∙ c.borrowed.ensures ∙ ap (λ (t : FrameSection). t.expressions) c.in-Ok.ensures.frame) in
    let target : c.target-target.result ≡ s.target = c.target-target.ensures ∙ ap (λ (t : FrameSection). t.target) c.in-Ok.ensures.frame in
    let under : (e : LocatedExpression) → Contains s.expressions e → IsUnder c.target-target.result e =
    λ e among. subst (λ (t : Target). IsUnder t e) (sym target) (all-under s checked e among) in (
      subst (λ (es : List LocatedExpression). All (LendsFound es) c.in-Some.stored_table.rows) same placed.lends,
      subst (λ (es : List LocatedExpression). (e : LocatedExpression) → Contains es e → IsUnder c.target-target.result e) same under,
    )

pub returns-clause-table : goal.returns-clause-table
returns-clause-table c =
    let s = c.args.frame.listed in
    let checked : IsChecked s = subst IsChecked (c.frame.view_is ∙ c.in-Ok.ensures.frame) c.frame.invariant.checked in
    table-of s c.target-target.result c.in_ok-expressions.expressions c.in-Some.stored_table.rows _
    (c.target-target.ensures ∙ ap (λ (t : FrameSection). t.target) c.in-Ok.ensures.frame)
    (c.in_ok-expressions.ensures.owned ∙ c.borrowed.ensures ∙ ap (λ (t : FrameSection). t.expressions) c.in-Ok.ensures.frame)
    (all-placed s c.in-Some.stored_table.rows (rw c.in-Some.is at c.in_ok-rows.ensures.rows) checked)
