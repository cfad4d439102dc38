use Rattle.dw_loclists.proofs.Standing.{well-formed}
use Rattle.dw_loclists.proofs.laws.list_sections_without_fault_are_well_formed.Goals as goal

pub returns : goal.returns
returns c = well-formed
