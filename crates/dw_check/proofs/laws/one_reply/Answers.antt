use Rattle.dw_check.proofs.OneReply.{one_reply}
use Rattle.dw_check.proofs.laws.one_reply.Goals as goal

pub returns : goal.returns
returns c = one_reply c.one_report.ensures c.one_caller_through_modules.ensures c.one_walk_through_modules.ensures
