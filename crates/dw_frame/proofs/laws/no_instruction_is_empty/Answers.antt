use Rattle.dw_frame.proofs.Exact.{some-bytes}
use Rattle.dw_frame.proofs.laws.no_instruction_is_empty.Goals as goal

pub returns : goal.returns
returns c = some-bytes
