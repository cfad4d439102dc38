use Rattle.std.proofs.Common.{◌≡◌, List, Some, ap, map, sym, subst, ◌∙◌}
use Rattle.std.specs.List.{All}
use Rattle.dw_frame.specs.Records.{Cie, Fde}
use Rattle.dw_rules.specs.Rules.{Row}
use Rattle.dw_rules.specs.RowsWithExpressions.{row_with_expressions}
use Rattle.dw_rows.specs.UnwindRows.{rows_of}
use Rattle.dw_rows.specs.Section.{FrameSection, cie_in, rows_in, rows_by_cie}
use Rattle.dw_check.specs.Text.{Fits}
use Rattle.dw_check.proofs.Within.{below_top, good_rows_fit}
use Rattle.dw_check.proofs.Writing.{fde_then, fde_front}
use Rattle.dw_check.proofs.output.write_fde_and_rows.Goals as goal

-- the rows of an FDE are the rows of its program, run after the program of its CIE
past : (s : FrameSection) (f : Fde) (c : Cie) (rows : List Row) → cie_in s f ≡ Some c → rows ≡ rows_in s f
    → rows ≡ map (row_with_expressions s.expressions) (rows_of c f)
past s f c rows is all = all ∙ ap (λ o. map (row_with_expressions s.expressions) (rows_by_cie o f)) is

pub write_fde-requires-clause-fits : goal.write_fde-requires-clause-fits
write_fde-requires-clause-fits g c = below_top c.args.frame.now.target _ _ c.requires.size c.requires.fits

pub write_rows-requires-clause-fit : goal.write_rows-requires-clause-fit
write_rows-requires-clause-fit g c =
    let size = c.args.out.now.size in
    let fit = subst (λ rows. All (λ row. Fits size row) rows)
    (sym (past c.args.frame.now _ _ _ c.rows_into-cie.ensures.cie c.rows_into-cie.ensures.rows))
    (good_rows_fit c.args.frame.now.target _ _ _ c.requires.size c.rows_into-cie.ensures.fde_program c.requires.fits
    c.args.frame.now.expressions) in
    rw c.in_ok-write_fde.ensures.same.1 fit

pub returns-in_err-write_fde-clause-written : goal.returns-in_err-write_fde-clause-written
returns-in_err-write_fde-clause-written g c =
    fde_front c.args.frame.now _ _ _ _ _ _ c.requires.size c.rows_into-cie.ensures.cie c.from_residual.ensures.0
    c.in_err-write_fde.ensures.written

pub returns-clause-written : goal.returns-clause-written
returns-clause-written g c =
    fde_then c.args.frame.now _ _ _ _ _ _ _ _ c.requires.size c.rows_into-cie.ensures.cie
    (past c.args.frame.now _ _ _ c.rows_into-cie.ensures.cie c.rows_into-cie.ensures.rows)
    c.in_ok-write_fde.ensures.written (rw c.in_ok-write_fde.ensures.same.1 at c.write_rows.ensures.written)
