use Rattle.dw_bytes.proofs.Determined.{one_length}
use Rattle.dw_bytes.proofs.laws.initial_lengths_are_unambiguous.Goals as goal

pub returns : goal.returns
returns c = one_length
