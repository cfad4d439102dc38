use Rattle.dw_in_place.proofs.Entries.{last-is, one-entry, none-begins}
use Rattle.dw_in_place.proofs.laws.one_entry_in_order.Goals as goal

pub returns : goal.returns
returns c = record { last = last-is; one = one-entry; none = none-begins }
