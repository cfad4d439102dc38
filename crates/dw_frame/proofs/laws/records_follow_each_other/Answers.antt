use Rattle.dw_frame.proofs.EachRecord.{record-leaves}
use Rattle.dw_frame.proofs.laws.records_follow_each_other.Goals as goal

pub returns : goal.returns
returns c = record-leaves
