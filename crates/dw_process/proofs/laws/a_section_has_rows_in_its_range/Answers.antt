use Rattle.dw_process.proofs.RowsInRange.{has_row_in_range}
use Rattle.dw_process.proofs.laws.a_section_has_rows_in_its_range.Goals as goal

pub returns : goal.returns
returns c = λ frame m address table alone range fits. has_row_in_range frame m address table alone range fits
