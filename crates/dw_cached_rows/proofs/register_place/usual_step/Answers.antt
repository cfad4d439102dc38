use Rattle.std.proofs.Common.{◌≡◌, ◌∙◌, ap, sym}
use Rattle.dw_cached_rows.proofs.Steps.{direct-row, usual-of}
use Rattle.dw_cached_rows.proofs.register_place.usual_step.Goals as goal

pub returns-in-7-clause-row : goal.returns-in-7-clause-row
returns-in-7-clause-row g c = λ goes.
    let form : c.args.row.now.form ≡ 7 = sym c.from.ensures ∙ c.in-7.is in
    direct-row c.args.row.now (λ zero. absurd (cc (form, zero))) (λ other. absurd (cc (form, other)))

pub returns-in-7-clause-step : goal.returns-in-7-clause-step
returns-in-7-clause-step g c = λ p full at is.
    let form : c.args.row.now.form ≡ 7 = sym c.from.ensures ∙ c.in-7.is in
    c.step_with_cfa.ensures.step p full at (usual-of c.args.row.now full 7 form (λ same. absurd (cc (same))) is)
    (ap p.registers form ∙ at.pointer)

pub returns-in-6-clause-row : goal.returns-in-6-clause-row
returns-in-6-clause-row g c = λ goes.
    let form : c.args.row.now.form ≡ 6 = sym c.from.ensures ∙ c.in-6.is in
    direct-row c.args.row.now (λ zero. absurd (cc (form, zero))) (λ other. absurd (cc (form, other)))

pub returns-in-6-clause-step : goal.returns-in-6-clause-step
returns-in-6-clause-step g c = λ p full at is.
    let form : c.args.row.now.form ≡ 6 = sym c.from.ensures ∙ c.in-6.is in
    c.step_with_cfa-in-6.ensures.step p full at (usual-of c.args.row.now full 6 form (λ same. absurd (cc (same))) is)
    (ap p.registers form ∙ at.rbp)
