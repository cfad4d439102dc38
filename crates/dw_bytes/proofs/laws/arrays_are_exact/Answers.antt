use Rattle.dw_bytes.proofs.Sequences.{offsets-exact}
use Rattle.dw_bytes.proofs.laws.arrays_are_exact.Goals as goal

pub returns : goal.returns
returns c = offsets-exact
