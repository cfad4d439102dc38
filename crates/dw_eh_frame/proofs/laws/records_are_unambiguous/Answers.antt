use Rattle.dw_eh_frame.proofs.ExactRecords.{records-are-unambiguous}
use Rattle.dw_eh_frame.proofs.laws.records_are_unambiguous.Goals as goal

pub returns : goal.returns
returns c = records-are-unambiguous
