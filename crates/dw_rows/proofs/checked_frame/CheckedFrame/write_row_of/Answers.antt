use Rattle.std.proofs.Common.{◌≡◌, List, Some, ap, subst, sym, map, ◌∙◌}
use Rattle.std.specs.Prelude.{find}
use Rattle.dw_frame.specs.Views.{cie_of, fde_of}
use Rattle.dw_stack.specs.Located.{LocatedExpression}
use Rattle.dw_rows.specs.Section.{rows_by_cie}
use Rattle.dw_rules.specs.RowsWithExpressions.{row_with_expressions}
use Rattle.dw_rows.specs.RowCursors.{Lends}
use Rattle.dw_rows.specs.UnwindRows.{rows_of, has_address}
use Rattle.dw_rows.proofs.checked_frame.CheckedFrame.write_row_of.Goals as goal

pub write_row_at-requires-clause-lent : goal.write_row_at-requires-clause-lent
write_row_at-requires-clause-lent c =
    subst (λ (es : List LocatedExpression). Lends es (cie_of c.begin_with_cie-cie.result) (fde_of c.args.fde.now)) (sym c.lent.ensures)
    c.begin_with_cie-cie.ensures.lends

pub returns-clause-row : goal.returns-clause-row
returns-clause-row c =
    let fde = fde_of c.args.fde.now in
    let cie = cie_of c.begin_with_cie-cie.result in
    let es = c.args.self.now.expressions in
    ap (λ o. find (has_address c.args.address) (map (row_with_expressions es) (rows_by_cie o fde))) c.begin_with_cie-cie.ensures.cie
    ∙ subst (λ (l : List LocatedExpression). find (has_address c.args.address) (map (row_with_expressions l) (rows_of cie fde))
    ≡ Some c.write_row_at.new.row) c.lent.ensures c.write_row_at.ensures
