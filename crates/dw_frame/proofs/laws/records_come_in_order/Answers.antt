use Rattle.dw_frame.proofs.EachRecord.{at-record, at-fault, at-end}
use Rattle.dw_frame.proofs.laws.records_come_in_order.Goals as goal

pub returns : goal.returns
returns c = record { entry = at-record; fault = at-fault; nothing = at-end }
