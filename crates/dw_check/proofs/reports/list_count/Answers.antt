use Rattle.dw_check.proofs.Reported.{both_mapped}
use Rattle.dw_check.proofs.reports.list_count.Goals as goal

pub returns : goal.returns
returns c = both_mapped _ _ _ _ c.lists.ensures
