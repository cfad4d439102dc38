use Rattle.dw_loclists.proofs.EachTable.{sections-are-tables}
use Rattle.dw_loclists.proofs.laws.sections_are_tables.Goals as goal

pub returns : goal.returns
returns c = sections-are-tables
