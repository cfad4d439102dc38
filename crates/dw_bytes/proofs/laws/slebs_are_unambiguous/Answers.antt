use Rattle.dw_bytes.proofs.Determined.{one_sleb}
use Rattle.dw_bytes.proofs.laws.slebs_are_unambiguous.Goals as goal

pub returns : goal.returns
returns c = one_sleb
