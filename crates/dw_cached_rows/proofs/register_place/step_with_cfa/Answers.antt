use Rattle.std.proofs.Common.{◌≡◌, ◌∙◌, ◌+ℤ◌, ℤ, ap, sym, true, nat_lt, arith, pos, rules, to_z, of_z, w64}
use Rattle.std.proofs.lemmas.Bool.Decides.{nat_tests}
use Rattle.dw_eval.specs.Numbers.{wrap}
use Rattle.dw_cached_rows.specs.CachedWalks.{word_at}
use Rattle.dw_cached_rows.specs.declared.packed_row.TheConstants.{LAST}
use Rattle.dw_cached_rows.proofs.RegisterSteps.{goes-on, unreadable-return}
use Rattle.dw_cached_rows.proofs.Steps.{plus-below}
use Rattle.dw_cached_rows.proofs.register_place.step_with_cfa.Goals as goal

pub returns-in_default-clause-step : goal.returns-in_default-clause-step
returns-in_default-clause-step g c = λ p full at is known.
    let memory = g.M.Memory.bytes c.args.memory.now in
    let lt : nat_lt c.args.row.now.form LAST ≡ true = grind (arith, nat_tests, c.requires) in
    let same : to_z w64 (of_z w64 c.from.result) ≡ c.args.row.now.cfa_offset = search rules in
    let cfa-is = c.plus-cfa.ensures ∙ ap (λ (z : ℤ). wrap 64 (pos c.args.base +ℤ z)) same in
    unreadable-return c.rows_without_expressions_have_callers.ensures memory c.args.row.now full p c.args.base c.plus-cfa.result lt
    cfa-is (ap (word_at memory) (sym c.plus.ensures) ∙ sym c.word.ensures ∙ c.in_default.is) is known

pub returns-in-Some-caller_place-clause-step : goal.returns-in-Some-caller_place-clause-step
returns-in-Some-caller_place-clause-step g c = λ p full at is known.
    let memory = g.M.Memory.bytes c.args.memory.now in
    let lt : nat_lt c.args.row.now.form LAST ≡ true = grind (arith, nat_tests, c.requires) in
    let same : to_z w64 (of_z w64 c.from.result) ≡ c.args.row.now.cfa_offset = search rules in
    let cfa-is = c.plus-cfa.ensures ∙ ap (λ (z : ℤ). wrap 64 (pos c.args.base +ℤ z)) same in
    let fits = c.are_numbers.ensures in
    goes-on c.rows_without_expressions_have_callers.ensures memory c.args.row.now full c.args.here.now c.in-Some-caller_place.caller p
    c.args.base c.plus-cfa.result c.in-Some.return_address lt fits.rbx fits.rbp fits.r12 fits.r13 fits.r14 fits.r15 cfa-is
    (plus-below c.plus-cfa.result (pos c.args.base +ℤ c.args.row.now.cfa_offset) cfa-is)
    (ap (word_at memory) (sym c.plus.ensures) ∙ sym c.word.ensures ∙ c.in-Some.is) c.in-Some-caller_place.ensures at is known
