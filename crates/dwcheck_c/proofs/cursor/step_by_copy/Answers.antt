use Rattle.std.proofs.Common.{◌≡◌, ◌∙◌, Bool, Option, ap, if◌then◌else◌, refl, subst, sym, ℕ}
use Rattle.std.specs.Prelude.{option_map}
use Rattle.dw_rules.specs.Abi.{abi_of}
use Rattle.dw_unwind.specs.Contents.{UnwindsTo, contents_in}
use Rattle.dw_unwind.specs.UnwoundViews.{caller_with}
use Rattle.dw_unwind.specs.Walks.{WalkedFrame}
use Rattle.dw_c_types.specs.Frames.{cframe_by, cframe_of}
use Rattle.dw_c_types.specs.ProcessWalks.{Unwinding, without_bits}
use Rattle.dwcheck_c.specs.declared.cursor.CCursor.{CCursor}
use Rattle.dwcheck_c.specs.WalkCursors.{registers_in, through_rows}
use Rattle.dwcheck_c.proofs.CursorSteps.{step-ends, step-goes}
use Rattle.dwcheck_c.proofs.cursor.step_by_copy.Goals as goal

pub returns-in-Ok-return_address-clause-done : goal.returns-in-Ok-return_address-clause-done
returns-in-Ok-return_address-clause-done g c = λ _ signals signed all is bits_are.
    let u : Unwinding = through_rows (g.T.UnwindRows.target_of c.args.rows.now) (g.T.UnwindRows.finds c.args.rows.now) signals signed
    (abi_of c.args.kept.now c.args.stack_pointer) (g.M.Memory.bytes c.args.memory.now) all in
    let old : CCursor = c.args.cursor.now in
    let h = subst (λ (at : Option ℕ). UnwindsTo u.callers (registers_in old) at c.in-Ok.unwound (contents_in c.contents_into.new.into))
    (sym c.requires) c.in-Ok.ensures.contents in
    let new : CCursor = record {
      registers = c.contents_into.new.into;
      address = c.without_bits-cursor.result;
      stage = c.stage_of_caller-cursor.result;
      reserved = old.reserved;
    } in
    let f : WalkedFrame = record { address = old.address; caller = option_map (caller_with h.found) c.in-Ok.unwound } in
    let shown : c.c_frame_of.result ≡ cframe_of f = c.c_frame_of.ensures ∙ ap cframe_by (c.brief.ensures h.found) in
    step-goes u old new c.c_frame_of.result c.in-Ok.unwound (contents_in c.contents_into.new.into) c.args.address
    c.in-Ok-return_address.next h c.requires shown c.in-Ok-return_address.ensures
    (c.stage_of_caller-cursor.ensures ∙ ap (λ (b : Bool). if b then 0 else 1) (sym is))
    (c.without_bits-cursor.ensures ∙ ap (λ (bits : ℕ). without_bits bits c.in-Ok-return_address.next) (sym bits_are)) refl

pub returns-in-Err-clause-done : goal.returns-in-Err-clause-done
returns-in-Err-clause-done g c = λ _ signals signed all is bits_are.
    let u : Unwinding = through_rows (g.T.UnwindRows.target_of c.args.rows.now) (g.T.UnwindRows.finds c.args.rows.now) signals signed
    (abi_of c.args.kept.now c.args.stack_pointer) (g.M.Memory.bytes c.args.memory.now) all in
    let old : CCursor = c.args.cursor.now in
    let h = subst (λ (at : Option ℕ). UnwindsTo u.callers (registers_in old) at c.in-Ok.unwound (contents_in c.contents_into.new.into))
    (sym c.requires) c.in-Ok.ensures.contents in
    let new : CCursor = record {
      registers = old.registers;
      address = old.address;
      stage = c.stage_after-cursor.result;
      reserved = old.reserved;
    } in
    let f : WalkedFrame = record { address = old.address; caller = option_map (caller_with h.found) c.in-Ok.unwound } in
    let shown : c.c_frame_of.result ≡ cframe_of f = c.c_frame_of.ensures ∙ ap cframe_by (c.brief.ensures h.found) in
    step-ends u old new c.c_frame_of.result c.in-Ok.unwound (contents_in c.contents_into.new.into) c.in-Err.stop h shown c.in-Err.ensures
    c.stage_after-cursor.ensures refl refl
