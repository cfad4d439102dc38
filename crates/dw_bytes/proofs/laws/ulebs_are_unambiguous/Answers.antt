use Rattle.dw_bytes.proofs.Determined.{one_uleb}
use Rattle.dw_bytes.proofs.laws.ulebs_are_unambiguous.Goals as goal

pub returns : goal.returns
returns c = one_uleb
