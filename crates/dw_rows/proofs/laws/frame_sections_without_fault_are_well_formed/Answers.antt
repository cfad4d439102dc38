use Rattle.dw_rows.proofs.sections.WellFormedSections.{faultless-well-formed}
use Rattle.dw_rows.proofs.laws.frame_sections_without_fault_are_well_formed.Goals as goal

pub returns : goal.returns
returns c = faultless-well-formed
