use Rattle.std.proofs.Common.{sym, subst}
use Rattle.dw_signed_rows.specs.Signatures.{IsAfter, SignatureState}
use Rattle.dw_signed_rows.proofs.SignatureSteps.{after-popped, after-pushed}
use Rattle.dw_signed_rows.proofs.signature.Signature.run.Goals as goal

pub returns-in-RememberState-clause-after : goal.returns-in-RememberState-clause-after
returns-in-RememberState-clause-after c = λ cie before a.
    let s = c.self.inside in
    rw c.in-RememberState.is
    (after-pushed cie before s.first s.is_signed s.remembered.items c.push.new.self.items c.push.ensures.items
    (subst (λ (m : SignatureState). IsAfter cie before m) (sym c.self.view_is) a))

pub returns-in-RestoreState-clause-after : goal.returns-in-RestoreState-clause-after
returns-in-RestoreState-clause-after c = λ cie before a.
    let s = c.self.inside in
    rw c.in-RestoreState.is
    (after-popped cie before s.first s.is_signed c.unwrap_or-self-inside.result s.remembered.items c.pop.new.self.items c.pop.result
    c.pop.ensures.items c.pop.ensures.variant c.unwrap_or-self-inside.ensures
    (subst (λ (m : SignatureState). IsAfter cie before m) (sym c.self.view_is) a))
