use Rattle.dw_stack.proofs.Determined.{one_run, one_trouble, ended_stands}
use Rattle.dw_stack.proofs.laws.runs_over_operations_are_determined.Goals as goal

pub returns : goal.returns
returns c = record { run = one_run; stop = one_trouble; end = ended_stands }
