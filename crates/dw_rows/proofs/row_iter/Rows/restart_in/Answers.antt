use Rattle.std.proofs.Common.{List, subst, sym}
use Rattle.dw_stack.specs.Located.{LocatedExpression}
use Rattle.dw_frame.specs.Views.{cie_of, fde_of}
use Rattle.dw_rows.specs.RowCursors.{Lends}
use Rattle.dw_rows.proofs.rows.Coming.{ready-begun}
use Rattle.dw_rows.proofs.row_iter.Rows.restart_in.Goals as goal

pub invariant_of-self : goal.invariant_of-self
invariant_of-self c = (
  ready-begun (cie_of c.begin_with_cie-cie.result) (fde_of c.args.fde.now) _
      (c.begin_rows-self-inside.ensures
      (cie_of c.begin_with_cie-cie.result) c.begin_with_cie-cie.ensures.left c.begin_with_cie-cie.ensures.fde_program),
  subst (λ (es : List LocatedExpression). Lends es (cie_of c.begin_with_cie-cie.result) (fde_of c.args.fde.now))
      (sym c.lent-self-inside.ensures)
      c.begin_with_cie-cie.ensures.lends,
)
