use Rattle.dw_unwind.proofs.DirectCallers.{direct-caller}
use Rattle.dw_unwind.proofs.laws.rows_without_expressions_have_callers.Goals as goal

pub returns : goal.returns
returns c = λ e abi column row base content by.
    direct-caller e abi column row base content by c.rules_under_abis.ensures.each c.rules_under_abis.ensures.all
