use Rattle.std.proofs.Common.{◌≡◌, ◌+◌, Some, arith, refl, ap, map, sym, ◌∙◌}
use Rattle.std.specs.Prelude.{find}
use Rattle.dw_frame.specs.Views.{cie_of, fde_of}
use Rattle.dw_rows.specs.Section.{rows_by_cie}
use Rattle.dw_rules.specs.RowsWithExpressions.{row_with_expressions}
use Rattle.dw_rows.specs.UnwindRows.{rows_of, has_address}
use Rattle.dw_rows.proofs.rows.Covering.{cover-rows, found-by}
use Rattle.dw_rows.proofs.rows.RowsWithExpressions.{cover-with}
use Rattle.dw_rows.proofs.rows.Lookups.{row-found, row-none}
use Rattle.dw_rows.proofs.checked_frame.CheckedFrame.row_for_address_into.Goals as goal

pub write_row_of-cie-requires-clause-low : goal.write_row_of-cie-requires-clause-low
write_row_of-cie-requires-clause-low c = c.in_ok-fde.ensures.only.1.0

pub write_row_of-cie-requires-clause-high : goal.write_row_of-cie-requires-clause-high
write_row_of-cie-requires-clause-high c = c.in_ok-fde.ensures.only.1.1

pub returns-clause-row : goal.returns-clause-row
returns-clause-row c = row-found c.args.self.now c.args.address
    (fde_of c.in_ok-fde.fde) c.write_row_of-cie.new.row c.in_ok-fde.ensures.only c.write_row_of-cie.ensures.row

-- a row that is found among rows that end at or below an address ends at or below that address too
pub returns-clause-fit : goal.returns-clause-fit
returns-clause-fit c =
    let cie = cie_of c.write_row_of-cie.result in
    let fde = fde_of c.in_ok-fde.fde in
    let es = c.args.self.now.expressions in
    let rows = map (row_with_expressions es) (rows_of cie fde) in
    let found : find (has_address c.args.address) rows ≡ Some c.write_row_of-cie.new.row =
    ap (λ o. find (has_address c.args.address) (map (row_with_expressions es) (rows_by_cie o fde))) (sym c.write_row_of-cie.ensures.cie)
    ∙ c.write_row_of-cie.ensures.row in
    let by = found-by (has_address c.args.address) fde.initial_location (fde.initial_location + fde.address_range)
    rows c.write_row_of-cie.new.row
    (cover-with es fde.initial_location (rows_of cie fde) (fde.initial_location + fde.address_range)
    (cover-rows cie fde c.write_row_of-cie.ensures.fde_program)) found in
    (omega (arith, by.0, c.in_ok-fde.ensures.fit), omega (arith, by.1, c.in_ok-fde.ensures.fit))

pub returns-in_err-fde-clause-none : goal.returns-in_err-fde-clause-none
returns-in_err-fde-clause-none c = rw c.from_residual.ensures (row-none c.args.self.now c.args.address c.in_err-fde.ensures.only, refl)
