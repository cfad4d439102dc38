use Rattle.std.proofs.Common.{sym, ap, rules, refl, ◌∙◌}
use Rattle.std.specs.Ordering.{nat_cmp}
use Rattle.std.specs.BTreeMap.{get}
use Rattle.std.specs.Option.{is_none}
use Rattle.dw_rules.specs.Abi.{abi_fault}
use Rattle.dw_state.specs.StateFile.{register, bytes, cfa, frame_base, object, keep, stack_pointer, kept_with}
use Rattle.dw_state.specs.StateViews.{known_state_of}
use Rattle.dw_state.proofs.KnownState.{added, given_more, plain_goes, together_more, or_none, where_true}
use Rattle.dw_state.proofs.machine_state.MachineState.add.Goals as goal

pub returns-in_ok-add_first_value-in-Register : goal.returns-in_ok-add_first_value-in-Register
returns-in_ok-add_first_value-in-Register c =
    let old = known_state_of c.args.self.now in
    let g = register c.in-Register.number c.in-Register.content in
    rw c.in-Register.is (record {
      taken = plain_goes old g refl refl c.args.self.now.abi_registers.fit;
      given = given_more old (record old { registers = get nat_cmp c.add_first_value.new.map }) g (record {
        registers = added c.args.self.now.registers c.add_first_value.new.map c.in-Register.number c.in-Register.content
            c.in_ok-add_first_value-in-Register.ensures;
        memory = λ a. sym (or_none (old.memory a));
        cfa = sym (or_none old.cfa);
        frame_base = sym (or_none old.frame_base);
        object = sym (or_none old.object);
        kept = refl;
        stack_pointer = sym (or_none old.stack_pointer);
      });
    })

pub returns-in_ok-add_memory_bytes-in-Memory : goal.returns-in_ok-add_memory_bytes-in-Memory
returns-in_ok-add_memory_bytes-in-Memory c =
    let old = known_state_of c.args.self.now in
    let g = bytes c.in-Memory.address c.in-Memory.bytes.items in
    rw c.in-Memory.is (record {
      taken = plain_goes old g refl refl c.args.self.now.abi_registers.fit;
      given = given_more old (record old { memory = get nat_cmp c.add_memory_bytes.new.memory }) g (record {
        registers = λ n. sym (or_none (old.registers n));
        memory = search (rules, c.in_ok-add_memory_bytes-in-Memory.ensures);
        cfa = sym (or_none old.cfa);
        frame_base = sym (or_none old.frame_base);
        object = sym (or_none old.object);
        kept = refl;
        stack_pointer = sym (or_none old.stack_pointer);
      });
    })

pub returns-in-Cfa : goal.returns-in-Cfa
returns-in-Cfa c =
    let old = known_state_of c.args.self.now in
    let g = cfa c.in-Cfa.value in
    rw c.in-Cfa.is (record {
      taken = plain_goes old g refl refl c.args.self.now.abi_registers.fit;
      given = given_more old (record old { cfa = c.first_value-self.result }) g (record {
        registers = λ n. sym (or_none (old.registers n));
        memory = λ a. sym (or_none (old.memory a));
        cfa = c.first_value-self.ensures;
        frame_base = sym (or_none old.frame_base);
        object = sym (or_none old.object);
        kept = refl;
        stack_pointer = sym (or_none old.stack_pointer);
      });
    })

pub returns-in-FrameBase : goal.returns-in-FrameBase
returns-in-FrameBase c =
    let old = known_state_of c.args.self.now in
    let g = frame_base c.in-FrameBase.value in
    rw c.in-FrameBase.is (record {
      taken = plain_goes old g refl refl c.args.self.now.abi_registers.fit;
      given = given_more old (record old { frame_base = c.first_value-self-in-FrameBase.result }) g (record {
        registers = λ n. sym (or_none (old.registers n));
        memory = λ a. sym (or_none (old.memory a));
        cfa = sym (or_none old.cfa);
        frame_base = c.first_value-self-in-FrameBase.ensures;
        object = sym (or_none old.object);
        kept = refl;
        stack_pointer = sym (or_none old.stack_pointer);
      });
    })

pub returns-in-Object : goal.returns-in-Object
returns-in-Object c =
    let old = known_state_of c.args.self.now in
    let g = object c.in-Object.value in
    rw c.in-Object.is (record {
      taken = plain_goes old g refl refl c.args.self.now.abi_registers.fit;
      given = given_more old (record old { object = c.first_value-self-in-Object.result }) g (record {
        registers = λ n. sym (or_none (old.registers n));
        memory = λ a. sym (or_none (old.memory a));
        cfa = sym (or_none old.cfa);
        frame_base = sym (or_none old.frame_base);
        object = c.first_value-self-in-Object.ensures;
        kept = refl;
        stack_pointer = sym (or_none old.stack_pointer);
      });
    })

pub returns-in-Keep-clause-taken : goal.returns-in-Keep-clause-taken
returns-in-Keep-clause-taken c =
    let old = known_state_of c.args.self.now in
    let g = keep c.in-Keep.number in
    rw c.in-Keep.is (λ gs is. c.keep.ensures.taken
    ∙ ap (λ sp. is_none (abi_fault (kept_with old.kept g) sp)) (sym (or_none old.stack_pointer))
    ∙ sym (together_more old gs g is))

pub returns-in-Keep-clause-given : goal.returns-in-Keep-clause-given
returns-in-Keep-clause-given c =
    let old = known_state_of c.args.self.now in
    let g = keep c.in-Keep.number in
    let named = c.keep.new.self in
    rw c.in-Keep.is (where_true c.keep.result c.keep.ensures.kept (λ kept.
    given_more old (record old { kept = named.kept.items; stack_pointer = named.stack_pointer }) g (record {
      registers = λ n. sym (or_none (old.registers n));
      memory = λ a. sym (or_none (old.memory a));
      cfa = sym (or_none old.cfa);
      frame_base = sym (or_none old.frame_base);
      object = sym (or_none old.object);
      kept = kept;
      stack_pointer = c.keep.ensures.stays ∙ sym (or_none old.stack_pointer);
    })))

pub returns-in-StackPointer-clause-taken : goal.returns-in-StackPointer-clause-taken
returns-in-StackPointer-clause-taken c =
    let old = known_state_of c.args.self.now in
    let g = stack_pointer c.in-StackPointer.number in
    rw c.in-StackPointer.is (λ gs is. c.set_stack_pointer.ensures.taken ∙ sym (together_more old gs g is))

pub returns-in-StackPointer-clause-given : goal.returns-in-StackPointer-clause-given
returns-in-StackPointer-clause-given c =
    let old = known_state_of c.args.self.now in
    let g = stack_pointer c.in-StackPointer.number in
    let named = c.set_stack_pointer.new.self in
    rw c.in-StackPointer.is (where_true c.set_stack_pointer.result c.set_stack_pointer.ensures.named (λ is_named.
    given_more old (record old { kept = named.kept.items; stack_pointer = named.stack_pointer }) g (record {
      registers = λ n. sym (or_none (old.registers n));
      memory = λ a. sym (or_none (old.memory a));
      cfa = sym (or_none old.cfa);
      frame_base = sym (or_none old.frame_base);
      object = sym (or_none old.object);
      kept = search (rules, c.set_stack_pointer.ensures.stays);
      stack_pointer = is_named;
    })))
