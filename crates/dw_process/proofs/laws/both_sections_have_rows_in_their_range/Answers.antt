use Rattle.dw_process.proofs.RowsInRange.{both_have_rows_in_range}
use Rattle.dw_process.proofs.laws.both_sections_have_rows_in_their_range.Goals as goal

pub returns : goal.returns
returns c = λ debug_frame eh_frame m address tables range fits. both_have_rows_in_range debug_frame eh_frame m address tables range fits
