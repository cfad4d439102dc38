use Rattle.std.proofs.Common.{sym, ◌∙◌}
use Rattle.dw_unwind.proofs.Contents.{unnamed-default}
use Rattle.dw_unwind.proofs.caller_contents.rule_of_kept.Goals as goal

pub returns-else-is_among-clause-rule : goal.returns-else-is_among-clause-rule
returns-else-is_among-clause-rule c = unnamed-default c.args.kept.now c.args.number (sym c.is_among.ensures ∙ c.if-is_among.false)
