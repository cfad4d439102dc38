use Rattle.dw_frame.proofs.Blocks.{ends-with-block}
use Rattle.dw_frame.proofs.laws.instructions_end_with_their_expressions.Goals as goal

pub returns : goal.returns
returns c = ends-with-block
