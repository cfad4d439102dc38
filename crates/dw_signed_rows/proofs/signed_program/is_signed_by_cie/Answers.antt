use Rattle.std.proofs.Common.{◌≡◌, ◌∙◌, ◌∷◌, Bool, List, ℕ, Result, Ok, ap, sym, subst}
use Rattle.dw_bytes.specs.declared.fault.Fault.{Fault}
use Rattle.dw_frame.specs.Instructions.{Instruction}
use Rattle.dw_frame.specs.Views.{cie_of, instruction_of, item_of}
use Rattle.dw_signed_rows.proofs.Programs.{IsLeaving, leaving-begins, leaving-on}
use Rattle.dw_signed_rows.proofs.signed_program.is_signed_by_cie.Goals as goal

pub loop-instruction-init : goal.loop-instruction-init
loop-instruction-init c = rw c.instructions-instructions.ensures (leaving-begins (cie_of c.args.cie.now) c.requires)

pub loop-instruction-preserved : goal.loop-instruction-preserved
loop-instruction-preserved c =
    let cie = cie_of c.args.cie.now in
    let at = c.in-Some-Ok.field-0-0-0 in
    let i = instruction_of c.in-Some-Ok.instruction in
    let was = c.loop-instruction.is_signed in
    let next : c.loop-instruction.instructions ≡ Ok (at, i) ∷ c.next.new.self =
    c.in-Some-Ok.ensures.steps ∙ ap (λ x. item_of x ∷ c.next.new.self) c.in-Some-Ok.field-0-is in
    subst (λ (b : Bool). IsLeaving cie c.next.new.self b) (sym c.turned_by-is_signed.ensures)
    (leaving-on cie at i c.next.new.self was
    (subst (λ (l : List (Result (ℕ × Instruction) Fault)). IsLeaving cie l was) next c.loop-instruction.invariant))
