use Rattle.std.proofs.Common.{rules, ◌≡◌, None, false, true, refl}
use Rattle.dw_rules.specs.Abi.{is_among}
use Rattle.dw_rules.specs.Abi.{abi_fault}
use Rattle.dw_state.proofs.KeptNumbers.{stack_pointer_fits, kept_stays}
use Rattle.dw_state.proofs.abi_registers.AbiRegisters.set_stack_pointer.Goals as goal

pub returns-in-None-clause-taken : goal.returns-in-None-clause-taken
returns-in-None-clause-taken c =
    let kept = c.args.self.now.kept.items in
    let there : is_among c.args.number kept ≡ true = search rules in
    rw (c.in-None.is, kept_stays kept c.args.number there) refl

pub invariant_of-self : goal.invariant_of-self
invariant_of-self c =
    let kept = c.args.self.now.kept.items in
    let new : is_among c.args.number kept ≡ false = search rules in
    let fit : abi_fault kept None ≡ None = search rules in
    record { fit = stack_pointer_fits kept c.args.number fit new }
