use Rattle.std.proofs.Common.{◌≡◌, ◌∙◌, sym}
use Rattle.dw_cached_rows.proofs.Steps.{direct-row, usual-of}
use Rattle.dw_cached_rows.proofs.stack_place.step_by.Goals as goal

pub returns-in-135-clause-row : goal.returns-in-135-clause-row
returns-in-135-clause-row g c = λ goes.
    let form : c.args.row.now.form ≡ 135 = sym c.from.ensures ∙ c.in-135.is in
    direct-row c.args.row.now (λ zero. absurd (cc (form, zero))) (λ other. absurd (cc (form, other)))

pub returns-in-135-clause-step : goal.returns-in-135-clause-step
returns-in-135-clause-step g c = λ p full at is.
    let form : c.args.row.now.form ≡ 135 = sym c.from.ensures ∙ c.in-135.is in
    c.last_step.ensures.step p full at (usual-of c.args.row.now full 135 form (λ same. absurd (cc (same))) is)
