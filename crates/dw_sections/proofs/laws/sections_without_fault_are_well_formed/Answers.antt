use Rattle.dw_sections.proofs.WholeCheck.{without_fault}
use Rattle.dw_sections.proofs.laws.sections_without_fault_are_well_formed.Goals as goal

pub returns : goal.returns
returns c = without_fault c.frame_sections_without_fault_are_well_formed.ensures c.list_sections_without_fault_are_well_formed.ensures
