use Rattle.dw_unwind.proofs.EachCaller.{each_unwinding}
use Rattle.dw_unwind.proofs.laws.each_address_has_an_unwinding.Goals as goal

pub returns : goal.returns
returns c = each_unwinding c.exact_rows.ensures.covered c.each_row_has_a_caller.ensures
