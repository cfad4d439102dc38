use Rattle.dw_rows.proofs.rows.RowsOf.{rows-of-good}
use Rattle.dw_rows.proofs.laws.rows_are_those_of_addresses.Goals as goal

pub returns : goal.returns
returns c = rows-of-good
