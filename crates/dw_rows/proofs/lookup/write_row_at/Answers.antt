use Rattle.std.proofs.Common.{Some, sym, ap, ◌∙◌}
use Rattle.dw_frame.specs.Views.{cie_of, fde_of}
use Rattle.dw_rows.specs.UnwindRows.{rows_of}
use Rattle.dw_rules.specs.RowExpressions.{row_expressions}
use Rattle.dw_rows.proofs.rows.RowsWithExpressions.{find-with}
use Rattle.dw_rows.proofs.lookup.write_row_at.Goals as goal

pub write_row-requires : goal.write_row-requires
write_row-requires c = record { cfa = c.seek_row-start.ensures.cfa; lent = c.seek_row-start.ensures.lent _ c.requires.lent }

pub returns : goal.returns
returns c =
    find-with (row_expressions c.args.expressions) c.args.address (rows_of (cie_of c.args.cie.now) (fde_of c.args.fde.now)) _
    c.seek_row-start.ensures.row
    ∙ ap Some (sym c.write_row.ensures)
