use Rattle.dw_check.proofs.Reported.{mapped_of}
use Rattle.dw_check.proofs.reports.table_count.Goals as goal

pub returns : goal.returns
returns c = mapped_of _ _ _ c.tables.ensures
