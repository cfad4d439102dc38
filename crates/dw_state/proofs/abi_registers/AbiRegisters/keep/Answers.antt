use Rattle.std.proofs.Common.{rules, arith, ◌≡◌, ◌<◌, ◌∙◌, sym, false, true, nat_eq, Some, length}
use Rattle.std.specs.Option.{option_eq}
use Rattle.dw_rules.specs.Abi.{is_among}
use Rattle.dw_rules.specs.declared.abi.TheConstants.{MAX_KEPT}
use Rattle.dw_state.proofs.KeptNumbers.{one_more_fits, one_too_many, stack_pointer_stays, is_stack_pointer}
use Rattle.dw_state.proofs.abi_registers.AbiRegisters.keep.Goals as goal
use Rattle.dw_state.proofs.abi_registers.AbiRegisters.keep.Goals.{then-eq-via-then-eq, then-eq-via-else-eq+then-is_full}

pub returns-then-eq-clause-taken : goal.returns-then-eq-clause-taken
returns-then-eq-clause-taken c =
    let kept = c.args.self.now.kept.items in
    let sp = c.args.self.now.stack_pointer in
    let n = c.args.number in
    let new : is_among n kept ≡ false = search rules in
    rw new (elim c.then-eq.branch [
      | then-eq-via-then-eq w ↦
          let same : option_eq nat_eq sp (Some n) ≡ true = search (rules, w.if-eq.true) in
          sym (stack_pointer_stays kept sp n (is_stack_pointer sp n ∙ same))
      | then-eq-via-else-eq+then-is_full w ↦
          let full : length kept ≡ MAX_KEPT = search (rules, w.if-is_full.true) in
          sym (one_too_many kept sp n full)
    ])

pub invariant_of-self : goal.invariant_of-self
invariant_of-self c =
    let kept = c.args.self.now.kept.items in
    let sp = c.args.self.now.stack_pointer in
    let n = c.args.number in
    let new : is_among n kept ≡ false = search rules in
    let other : option_eq nat_eq sp (Some n) ≡ false = search rules in
    let small : length kept < MAX_KEPT = grind arith in
    rw c.push.ensures.items (record { fit = one_more_fits kept sp n c.args.self.now.fit new (is_stack_pointer sp n ∙ other) small })
