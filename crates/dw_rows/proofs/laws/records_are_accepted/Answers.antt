use Rattle.dw_rows.proofs.sections.CheckedSections.{records-accepted}
use Rattle.dw_rows.proofs.laws.records_are_accepted.Goals as goal

pub returns : goal.returns
returns c = records-accepted
