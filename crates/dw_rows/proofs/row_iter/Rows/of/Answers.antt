use Rattle.std.proofs.Common.{List, subst, sym}
use Rattle.dw_stack.specs.Located.{LocatedExpression}
use Rattle.dw_frame.specs.Views.{cie_of, fde_of}
use Rattle.dw_rows.specs.RowCursors.{Lends}
use Rattle.dw_rows.proofs.rows.Coming.{ready-begun}
use Rattle.dw_rows.proofs.row_iter.Rows.of.Goals as goal

pub invariant_of-result : goal.invariant_of-result
invariant_of-result c = (
  rw c.at.ensures (ready-begun (cie_of c.begin_with_cie-cie.result) (fde_of c.args.fde.now) _
      (c.begin_rows_at-instructions.ensures
      (cie_of c.begin_with_cie-cie.result) c.begin_with_cie-cie.ensures.left c.begin_with_cie-cie.ensures.fde_program)),
  subst (λ (es : List LocatedExpression). Lends es (cie_of c.begin_with_cie-cie.result) (fde_of c.args.fde.now)) (sym c.lent.ensures)
      c.begin_with_cie-cie.ensures.lends,
)
