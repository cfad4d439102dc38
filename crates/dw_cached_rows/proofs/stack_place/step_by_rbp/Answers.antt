use Rattle.std.proofs.Common.{◌∙◌, ap, sym}
use Rattle.dw_cached_rows.specs.CachedWalks.{word_at}
use Rattle.dw_cached_rows.proofs.RealignedSteps.{goes-on, unreadable-return}
use Rattle.dw_cached_rows.proofs.stack_place.step_by_rbp.Goals as goal

pub returns-in-Some-word-clause-step : goal.returns-in-Some-word-clause-step
returns-in-Some-word-clause-step g c = λ p full at is known.
    let memory = g.M.Memory.bytes c.args.memory.now in
    let after = c.caller_of_realigned.ensures in
    goes-on c.rules_under_abis.ensures.each c.rules_under_abis.ensures.all memory c.args.row.now full c.args.here.now
    c.caller_of_realigned.result p c.args.base c.in-Some.cfa c.in-Some-word.return_address after.fits known
    (sym c.cfa_by_rbp.ensures ∙ c.in-Some.is)
    (ap (word_at memory) (sym c.plus.ensures) ∙ sym c.word.ensures ∙ c.in-Some-word.is) after.address after.key after.stack_pointer
    (after.frame_pointer memory) at is

pub returns-in-None-clause-step : goal.returns-in-None-clause-step
returns-in-None-clause-step g c = λ p full at is known.
    let memory = g.M.Memory.bytes c.args.memory.now in
    unreadable-return c.rules_under_abis.ensures.each c.rules_under_abis.ensures.all memory c.args.row.now full c.args.here.now p c.args.base
    c.in-Some.cfa known (sym c.cfa_by_rbp.ensures ∙ c.in-Some.is)
    (ap (word_at memory) (sym c.plus.ensures) ∙ sym c.word.ensures ∙ c.in-None.is) at is
