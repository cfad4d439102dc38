use Rattle.dw_frame.proofs.EachRecord.{record-exact}
use Rattle.dw_frame.proofs.laws.records_are_exact.Goals as goal

pub returns : goal.returns
returns c = record-exact
