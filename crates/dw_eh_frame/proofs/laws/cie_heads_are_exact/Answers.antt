use Rattle.dw_eh_frame.proofs.ExactHeads.{head-own}
use Rattle.dw_eh_frame.proofs.laws.cie_heads_are_exact.Goals as goal

pub returns : goal.returns
returns c = head-own
