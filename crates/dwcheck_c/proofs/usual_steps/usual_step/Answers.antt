use Rattle.std.proofs.Common.{◌≡◌, ◌∙◌, Bool, Option, Some, ap, if◌then◌else◌, refl, subst, sym, ℕ}
use Rattle.std.specs.Prelude.{option_map}
use Rattle.dw_rules.specs.Abi.{abi_of}
use Rattle.dw_unwind.specs.Contents.{UnwindsTo, contents_in}
use Rattle.dw_unwind.specs.UnwoundViews.{caller_with}
use Rattle.dw_unwind.specs.Walks.{WalkedFrame}
use Rattle.dw_c_types.specs.Frames.{cframe_by, cframe_of}
use Rattle.dw_c_types.specs.ProcessWalks.{Unwinding, through_process, without_bits}
use Rattle.dwcheck_c.specs.declared.cursor.CCursor.{CCursor}
use Rattle.dwcheck_c.specs.WalkCursors.{looked_up_by, registers_in}
use Rattle.dwcheck_c.proofs.CursorSteps.{step-goes}
use Rattle.dwcheck_c.proofs.usual_steps.usual_step.Goals as goal

pub returns-clause-steps : goal.returns-clause-steps
returns-clause-steps g c = λ reserved.
    let u : Unwinding =
    through_process (abi_of c.args.kept.now c.args.stack_pointer) (g.M.Memory.bytes c.args.memory.now) c.args.bits c.args.process.now in
    let old : CCursor = record { registers = c.args.file.now; address = c.args.address; stage = c.args.stage; reserved = reserved } in
    let w = c.in_ok-unwound.unwound in
    let a = c.in_ok-looked_up.looked_up in
    let at : Some a ≡ looked_up_by old.stage old.address = c.in_ok-looked_up.ensures in
    let to = contents_in c.step_in_module.new.file in
    let here : UnwindsTo u.callers (registers_in old) (Some a) (Some w) to = c.in_ok-unwound.ensures.steps in
    let h = subst (λ (o : Option ℕ). UnwindsTo u.callers (registers_in old) o (Some w) to) at here in
    let new : CCursor = record {
      registers = c.step_in_module.new.file;
      address = c.without_bits.result;
      stage = c.stage_of_caller.result;
      reserved = reserved;
    } in
    let f : WalkedFrame = record { address = old.address; caller = option_map (caller_with h.found) (Some w) } in
    let shown : c.c_frame_of.result ≡ cframe_of f = c.c_frame_of.ensures ∙ ap cframe_by (c.brief.ensures h.found) in
    step-goes u old new c.c_frame_of.result (Some w) to a c.in-Ok.next h (sym at) shown c.in-Ok.ensures
    (c.stage_of_caller.ensures ∙ ap (λ (b : Bool). if b then 0 else 1) c.in_ok-unwound.ensures.signal)
    (c.without_bits.ensures ∙ ap (λ (bits : ℕ). without_bits bits c.in-Ok.next) c.in_ok-unwound.ensures.bits) refl
