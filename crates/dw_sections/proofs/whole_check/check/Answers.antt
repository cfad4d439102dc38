use Rattle.dw_sections.proofs.WholeCheck.{accepts, refuses}
use Rattle.dw_sections.proofs.whole_check.check.Goals as goal

pub returns-clause-accepts : goal.returns-clause-accepts
returns-clause-accepts c =
    accepts _ _ c.check_both.result c.check_both.ensures.answer
    (c.sections_without_fault_are_well_formed.ensures c.args.target c.args.frame.now c.args.lists.now)

pub returns-clause-refuses : goal.returns-clause-refuses
returns-clause-refuses c =
    refuses _ _ c.check_both.result c.check_both.ensures.answer
    (c.sections_without_fault_are_well_formed.ensures c.args.target c.args.frame.now c.args.lists.now)
