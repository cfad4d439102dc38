use Rattle.dw_stack.proofs.paths.Runs.{ahead_of}
use Rattle.dw_stack.proofs.laws.branches_lead_ahead.Goals as goal

pub returns : goal.returns
returns c = ahead_of
