use Rattle.dw_frame.proofs.RecordBounds.{records-ascend}
use Rattle.dw_frame.proofs.laws.records_ascend.Goals as goal

pub returns : goal.returns
returns c = records-ascend
