use Rattle.dw_loclists.proofs.Standing.{one-entry}
use Rattle.dw_loclists.proofs.laws.entries_are_unambiguous.Goals as goal

pub returns : goal.returns
returns c = one-entry
