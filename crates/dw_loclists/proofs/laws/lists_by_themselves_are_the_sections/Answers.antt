use Rattle.dw_loclists.proofs.Located.{list-alone}
use Rattle.dw_loclists.proofs.laws.lists_by_themselves_are_the_sections.Goals as goal

pub returns : goal.returns
returns c = list-alone
