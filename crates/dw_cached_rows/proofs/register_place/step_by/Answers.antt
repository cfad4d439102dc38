use Rattle.std.proofs.Common.{◌≡◌, ◌∙◌, ap, refl, sym}
use Rattle.dw_cached_rows.specs.declared.packed_row.TheConstants.{REALIGNED}
use Rattle.dw_cached_rows.specs.RegisterWalks.{register_in}
use Rattle.dw_cached_rows.proofs.RegisterSteps.{kept-register, no-register}
use Rattle.dw_cached_rows.proofs.Steps.{direct-row, usual-of}
use Rattle.dw_cached_rows.proofs.register_place.step_by.Goals as goal

pub returns-then-form-eq-LAST_BY_RSP-clause-row : goal.returns-then-form-eq-LAST_BY_RSP-clause-row
returns-then-form-eq-LAST_BY_RSP-clause-row g c = λ goes.
    let form : c.args.row.now.form ≡ 135 = sym c.from-form.ensures ∙ c.if-form-eq-LAST_BY_RSP.true in
    direct-row c.args.row.now (λ zero. absurd (cc (form, zero))) (λ other. absurd (cc (form, other)))

pub returns-then-form-eq-LAST_BY_RSP-clause-step : goal.returns-then-form-eq-LAST_BY_RSP-clause-step
returns-then-form-eq-LAST_BY_RSP-clause-step g c = λ p full at is.
    let form : c.args.row.now.form ≡ 135 = sym c.from-form.ensures ∙ c.if-form-eq-LAST_BY_RSP.true in
    c.last_step.ensures.step p full at (usual-of c.args.row.now full 135 form (λ same. absurd (cc (same))) is)

pub returns-in-Some-clause-row : goal.returns-in-Some-clause-row
returns-in-Some-clause-row g c = λ goes.
    let here = c.args.here.now in
    let known = ap (register_in here) (sym c.from-form.ensures) ∙ sym c.register.ensures ∙ c.in-Some.is in
    direct-row c.args.row.now (λ zero. no-register here c.args.row.now.form 0 c.in-Some.base zero refl known)
    (λ other. no-register here c.args.row.now.form REALIGNED c.in-Some.base other refl known)

pub returns-in-Some-clause-step : goal.returns-in-Some-clause-step
returns-in-Some-clause-step g c = λ p full at is.
    let here = c.args.here.now in
    let known : register_in here c.args.row.now.form ≡ _ = ap (register_in here) (sym c.from-form.ensures) ∙ sym c.register.ensures ∙ c.in-Some.is in
    let usual = usual-of c.args.row.now full c.args.row.now.form refl (λ other. no-register here c.args.row.now.form REALIGNED c.in-Some.base other refl known) is in
    c.step_with_cfa.ensures.step p full at usual (kept-register here p c.args.row.now.form c.in-Some.base at known)
