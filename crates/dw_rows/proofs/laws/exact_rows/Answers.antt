use Rattle.dw_rows.proofs.rows.Lookups.{row-none}
use Rattle.dw_rows.proofs.rows.OneRow.{has-one-row}
use Rattle.dw_rows.proofs.laws.exact_rows.Goals as goal

pub returns : goal.returns
returns c = record { covered = has-one-row; others = row-none }
