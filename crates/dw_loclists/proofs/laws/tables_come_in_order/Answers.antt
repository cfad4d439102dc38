use Rattle.dw_loclists.proofs.EachTable.{at-table, at-fault, at-end}
use Rattle.dw_loclists.proofs.laws.tables_come_in_order.Goals as goal

pub returns : goal.returns
returns c = record { table = at-table; fault = at-fault; nothing = at-end }
