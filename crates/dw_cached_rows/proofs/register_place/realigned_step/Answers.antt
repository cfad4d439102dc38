use Rattle.std.proofs.Common.{◌≡◌, ◌∙◌, ap, sym, true}
use Rattle.dw_cached_rows.specs.PackedRows.{are_small}
use Rattle.dw_cached_rows.specs.CachedWalks.{word_at}
use Rattle.dw_cached_rows.proofs.RealignedRows.{is-realigned, realigned_row}
use Rattle.dw_cached_rows.proofs.RealignedSteps.{goes-on-with, unreadable-with}
use Rattle.dw_cached_rows.proofs.register_place.realigned_step.Goals as goal

pub returns-then-not-are_small-clause-other : goal.returns-then-not-are_small-clause-other
returns-then-not-are_small-clause-other g c = λ other.
    (c.requires, λ cfa small read. absurd (cc (c.if-not-are_small.true, c.are_small.ensures, small)))

pub returns-in_default-word-clause-row : goal.returns-in_default-word-clause-row
returns-in_default-word-clause-row g c = λ goes.
    let small : are_small c.args.row.now ≡ true = sym c.are_small.ensures ∙ c.if-not-are_small.false in
    (realigned_row c.args.row.now, is-realigned c.args.row.now c.requires small)

pub returns-in_default-word-clause-step : goal.returns-in_default-word-clause-step
returns-in_default-word-clause-step g c = λ p full at is.
    let memory = g.M.Memory.bytes c.args.memory.now in
    unreadable-with c.rules_under_abis.ensures.each c.rules_under_abis.ensures.all memory c.args.row.now full c.args.here.now p c.in-Some.cfa
    (sym c.cfa_by_rbp.ensures ∙ c.in-Some.is)
    (ap (word_at memory) (sym c.plus.ensures) ∙ sym c.word.ensures ∙ c.in_default-word.is) at is

pub returns-in-Some-caller_of_realigned-clause-row : goal.returns-in-Some-caller_of_realigned-clause-row
returns-in-Some-caller_of_realigned-clause-row g c = λ goes.
    let small : are_small c.args.row.now ≡ true = sym c.are_small.ensures ∙ c.if-not-are_small.false in
    (realigned_row c.args.row.now, is-realigned c.args.row.now c.requires small)

pub returns-in-Some-caller_of_realigned-clause-step : goal.returns-in-Some-caller_of_realigned-clause-step
returns-in-Some-caller_of_realigned-clause-step g c = λ p full at is.
    let memory = g.M.Memory.bytes c.args.memory.now in
    let fits = c.are_numbers.ensures in
    goes-on-with c.rules_under_abis.ensures.each c.rules_under_abis.ensures.all memory c.args.row.now full c.args.here.now
    c.in-Some-caller_of_realigned.caller p c.in-Some.cfa c.in-Some-word.return_address fits.rbx fits.rbp fits.r12 fits.r13 fits.r14 fits.r15
    (sym c.cfa_by_rbp.ensures ∙ c.in-Some.is)
    (ap (word_at memory) (sym c.plus.ensures) ∙ sym c.word.ensures ∙ c.in-Some-word.is) c.in-Some-caller_of_realigned.ensures at is
