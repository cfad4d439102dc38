use Rattle.dw_stack.proofs.paths.Runs.{run_more}
use Rattle.dw_stack.proofs.laws.runs_go_on.Goals as goal

pub returns : goal.returns
returns c = run_more
