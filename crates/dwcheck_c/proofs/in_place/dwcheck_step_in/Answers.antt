use Rattle.std.proofs.Common.{◌≡◌, ◌∙◌, inr, None, Option, subst, sym, ℕ}
use Rattle.std.specs.Prelude.{IfNone}
use Rattle.dw_c_types.specs.Machine.{abi_in, memory_of}
use Rattle.dwcheck_c.specs.InPlaceLookUps.{IsStepAt}
use Rattle.dwcheck_c.proofs.in_place.dwcheck_step_in.Goals as goal

none-found : {X P : Type 0} (o : Option X) → o ≡ None → IfNone o P → P
none-found {P = P} o is if_none = subst (λ p. IfNone p P) is if_none

pub returns-in_default-clause-done : goal.returns-in_default-clause-done
returns-in_default-clause-done c = λ done.
    let s = c.args.state.now in
    subst (λ (at : Option ℕ). IsStepAt c.args.module.now c.args.header.now at (abi_in s) (memory_of s) s.signed_bits c.args.cursor.now
    c.step_uncovered.new.cursor c.step_uncovered.new.out) (sym c.in_default.is ∙ c.looked_up.ensures)
    (c.step_uncovered.ensures.done (abi_in s) (memory_of s) s.signed_bits done)

pub returns-in-Ok-None-clause-done : goal.returns-in-Ok-None-clause-done
returns-in-Ok-None-clause-done c = λ done.
    let s = c.args.state.now in
    subst (λ (at : Option ℕ). IsStepAt c.args.module.now c.args.header.now at (abi_in s) (memory_of s) s.signed_bits c.args.cursor.now
    c.step_uncovered-in-Ok-None.new.cursor c.step_uncovered-in-Ok-None.new.out) (sym c.in-Some.is ∙ c.looked_up.ensures)
    (inr (none-found c.in-Ok-None.field-0 c.in-Ok-None.field-0-is c.in-Ok-None.ensures.none, c.step_uncovered-in-Ok-None.ensures.done (abi_in s) (memory_of s) s.signed_bits done))
