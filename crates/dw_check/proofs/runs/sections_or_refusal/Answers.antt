use Rattle.dw_sections.specs.Checked.{check_fault}
use Rattle.dw_check.proofs.BothSections.{stopped}
use Rattle.dw_check.proofs.runs.sections_or_refusal.Goals as goal

pub returns-in-Err-clause-stop : goal.returns-in-Err-clause-stop
returns-in-Err-clause-stop c =
    stopped (check_fault c.args.target c.args.frame.now c.args.lists.now) c.in-Err.found _ c.of_fault.ensures c.in-Err.ensures.answer
