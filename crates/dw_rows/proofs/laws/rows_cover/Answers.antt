use Rattle.std.proofs.Common.{◌+◌}
use Rattle.dw_rows.specs.UnwindRows.{rows_of}
use Rattle.dw_rows.proofs.rows.Covering.{cover-rows}
use Rattle.dw_rows.proofs.rows.RowsWithExpressions.{cover-with}
use Rattle.dw_rows.proofs.rows.RowsOf.{one-row}
use Rattle.dw_rows.proofs.laws.rows_cover.Goals as goal

pub returns : goal.returns
returns c = record {
  cover = cover-rows;
  given = cover-with;
  one = λ cie fde a none low high. one-row a fde.initial_location (fde.initial_location + fde.address_range)
      (rows_of cie fde) (cover-rows cie fde none) low high;
}
