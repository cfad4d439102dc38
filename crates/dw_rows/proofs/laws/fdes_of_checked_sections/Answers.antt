use Rattle.dw_rows.proofs.sections.CheckedSections.{checked-once}
use Rattle.dw_rows.proofs.sections.FdesOfSections.{fde-good}
use Rattle.dw_rows.proofs.laws.fdes_of_checked_sections.Goals as goal

pub returns : goal.returns
returns c = record { cie = fde-good; once = checked-once }
