use Rattle.dw_rows.proofs.sections.WellFormedSections.{faultless-good}
use Rattle.dw_rows.proofs.laws.records_without_fault_are_good.Goals as goal

pub returns : goal.returns
returns c = faultless-good
