use Rattle.dw_check.proofs.Reported.{of_mapped}
use Rattle.dw_check.proofs.reports.fde_count.Goals as goal

pub returns : goal.returns
returns c = of_mapped _ _ _ c.fdes.ensures.fdes
