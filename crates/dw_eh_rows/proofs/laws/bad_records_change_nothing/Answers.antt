use Rattle.dw_eh_rows.proofs.LeftOut.{others-kept}
use Rattle.dw_eh_rows.proofs.laws.bad_records_change_nothing.Goals as goal

pub returns : goal.returns
returns c = record { others = others-kept }
