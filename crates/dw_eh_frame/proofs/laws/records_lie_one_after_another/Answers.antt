use Rattle.dw_eh_frame.proofs.EncodedPlaces.{placed-records}
use Rattle.dw_eh_frame.proofs.laws.records_lie_one_after_another.Goals as goal

pub returns : goal.returns
returns c = placed-records
