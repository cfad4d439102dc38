use Rattle.dw_check.proofs.Reported.{report_one}
use Rattle.dw_check.proofs.laws.one_report.Goals as goal

pub returns : goal.returns
returns c = report_one c.depths_are_unique.ensures
