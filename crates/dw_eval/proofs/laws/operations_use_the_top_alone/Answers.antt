use Rattle.dw_eval.proofs.Topmost.{uses_top_alone, whole_stack}
use Rattle.dw_eval.proofs.laws.operations_use_the_top_alone.Goals as goal

pub returns : goal.returns
returns c = record { top = uses_top_alone; piece = whole_stack }
