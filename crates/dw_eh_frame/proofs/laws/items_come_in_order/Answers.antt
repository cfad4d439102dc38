use Rattle.dw_eh_frame.proofs.ItemSteps.{next-item, no-item, bad-length}
use Rattle.dw_eh_frame.proofs.laws.items_come_in_order.Goals as goal

pub returns : goal.returns
returns c = record { entry = next-item; fault = bad-length; nothing = no-item }
