use Rattle.std.proofs.Common.{◌≡◌, ◌∙◌, ◌+ℤ◌, ℤ, ap, pos, rules, to_z, of_z, w64}
use Rattle.dw_eval.specs.Numbers.{wrap}
use Rattle.dw_cached_rows.proofs.RegisterSteps.{last-frame}
use Rattle.dw_cached_rows.proofs.register_place.last_step.Goals as goal

pub returns-clause-step : goal.returns-clause-step
returns-clause-step g c = λ p full at is.
    let same : to_z w64 (of_z w64 c.from.result) ≡ c.args.row.now.cfa_offset = search rules in
    let cfa-is = c.plus.ensures ∙ ap (λ (z : ℤ). wrap 64 (pos c.args.here.now.stack_pointer +ℤ z)) same in
    last-frame c.rows_without_expressions_have_callers.ensures _ c.args.row.now full c.args.here.now p c.plus.result c.requires cfa-is at is
