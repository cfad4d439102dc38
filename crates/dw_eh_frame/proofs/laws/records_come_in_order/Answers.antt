use Rattle.dw_eh_frame.proofs.ExactRecords.{next-is, at-fault, at-end}
use Rattle.dw_eh_frame.proofs.laws.records_come_in_order.Goals as goal

pub returns : goal.returns
returns c = record { entry = next-is; fault = at-fault; nothing = at-end }
