use Rattle.dw_rows.specs.Section.{FrameSection}
use Rattle.dw_unwind.proofs.OneCaller.{unwinds_one}
use Rattle.dw_unwind.proofs.laws.one_caller.Goals as goal

pub returns : goal.returns
returns c = λ e abi (frame : FrameSection) address one other checked.
    unwinds_one frame.expressions c.rules_under_abis.ensures.each c.evaluations_are_determined.ensures e abi frame address one other
    (c.rows_have_good_expressions.ensures.addresses frame address checked)
