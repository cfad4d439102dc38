use Rattle.dw_rows.proofs.rows.RowsUnder.{section-row-under}
use Rattle.dw_rows.proofs.rows.GoodRows.{row-good, found-good}
use Rattle.dw_rows.proofs.laws.rows_have_good_expressions.Goals as goal

pub returns : goal.returns
returns c = record {
  rows = row-good;
  addresses = found-good;
  under = λ s a checked row found. section-row-under s a row checked found;
}
