use Rattle.dw_check.proofs.EachReply.{each_reply}
use Rattle.dw_check.proofs.laws.each_has_a_reply.Goals as goal

pub returns : goal.returns
returns c =
    each_reply c.each_has_a_report.ensures c.each_address_has_an_unwinding_through_modules.ensures
    c.each_has_a_walk_through_modules.ensures
