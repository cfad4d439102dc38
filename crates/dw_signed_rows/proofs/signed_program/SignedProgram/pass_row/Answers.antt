use Rattle.std.proofs.Common.{◌≡◌, ◌∙◌, ◌∷◌, ap, sym, subst, arith, refl, length, Ok}
use Rattle.dw_frame.specs.Views.{cie_of, fde_of, instruction_of, item_of}
use Rattle.dw_rules.specs.Effects.{effect_of}
use Rattle.dw_signed_rows.specs.Signatures.{IsAfter}
use Rattle.dw_signed_rows.specs.SignedRuns.{SignedState, moved_by}
use Rattle.dw_signed_rows.proofs.Programs.{run-on}
use Rattle.dw_signed_rows.proofs.signed_program.SignedProgram.pass_row.Goals as goal

pub returns : goal.returns
returns c = λ run.
    let cie = cie_of c.args.cie.now in
    let i = instruction_of c.in-Some-Ok.instruction in
    let is = c.self.view_is in
    let at = ap (λ (m : SignedState). m.location) is in
    let next : c.args.instructions.now ≡ Ok (c.in-Some-Ok.field-0-0-0, i) ∷ c.next.new.self =
    c.in-Some-Ok.ensures.steps ∙ ap (λ x. item_of x ∷ c.next.new.self) c.in-Some-Ok.field-0-is in (
      run-on cie (fde_of c.args.fde.now) c.in-Some-Ok.field-0-0-0 i c.args.instructions.now c.next.new.self c.args.self.now _ _ run next at refl
          (c.is_signed-is_signed.ensures ∙ ap (λ (m : SignedState). m.signature.is_signed) is)
          (c.location_after-self-inside.ensures ∙ ap (λ l. moved_by (effect_of cie i) l) at)
          (c.run.ensures.first ∙ ap (λ (m : SignedState). m.signature.first) is)
          (c.run.ensures.after cie run.before (subst (λ (m : SignedState). IsAfter cie run.before m.signature) (sym is) run.signature)),
      omega (arith, ap length next),
    )
