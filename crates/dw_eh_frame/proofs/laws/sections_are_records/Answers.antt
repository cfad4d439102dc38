use Rattle.dw_eh_frame.proofs.ExactRecords.{sections-are-records}
use Rattle.dw_eh_frame.proofs.laws.sections_are_records.Goals as goal

pub returns : goal.returns
returns c = sections-are-records
