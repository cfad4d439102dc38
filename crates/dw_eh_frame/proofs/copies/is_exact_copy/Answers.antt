use Rattle.std.proofs.Common.{sym, ◌∙◌}
use Rattle.dw_eh_frame.proofs.FdeSearch.{copy-of-first, no-copy}
use Rattle.dw_eh_frame.proofs.copies.is_exact_copy.Goals as goal

pub returns-in-Some : goal.returns-in-Some
returns-in-Some c =
    copy-of-first c.args.before.now c.args.fde.now c.index-before-first.result c.in-Some.first c.is_copy_of.result c.if-fde-eq0.false
    (sym (c.requires c.args.fde.now.initial_location) ∙ (sym c.get.ensures ∙ c.in-Some.is)) c.index-before-first.is c.is_copy_of.ensures

pub returns-in-None : goal.returns-in-None
returns-in-None c =
    sym (no-copy c.args.before.now c.args.fde.now c.if-fde-eq0.false
    (sym (c.requires c.args.fde.now.initial_location) ∙ (sym c.get.ensures ∙ c.in-None.is)))
