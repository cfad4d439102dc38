use Rattle.std.proofs.Common.{◌≡◌, ◌∙◌, ℕ, Option, Some, refl, subst, sym}
use Rattle.dw_rules.specs.Abi.{abi_of}
use Rattle.dw_unwind.specs.OneRows.{LookedUpRow}
use Rattle.dw_eh_frame.specs.Views.{eh_fde_of}
use Rattle.dw_signed_rows.specs.SignedRows.{is_signed_in}
use Rattle.dw_c_types.specs.Machine.{memory_of, pointer_of}
use Rattle.dwcheck_c.specs.WalkCursors.{IsStepBy, through_rows}
use Rattle.dwcheck_c.specs.declared.cursor.Stepped.{Stepped}
use Rattle.dwcheck_c.specs.declared.cursor.Stepped.TheVariants.{NoPlace, Written}
use Rattle.dwcheck_c.proofs.in_place.step_by_fde.Goals as goal

different : ◌≡◌ {A = Stepped} Written NoPlace → ⊥
different is = cc

pub returns-in-Written-clause-done : goal.returns-in-Written-clause-done
returns-in-Written-clause-done c = λ _.
    let e = eh_fde_of c.args.found.fde in
    let s = c.args.state.now in
    let step : LookedUpRow → Option ℕ → (ℕ → Option ℕ) → Type 0 = λ r p m. IsStepBy
    (through_rows r.target (λ _ found. found ≡ Some (r.row, r.return_register)) (λ _. e.cie.augmentation.is_signal)
    (λ _. is_signed_in e.cie.cie e.fde c.args.linked) (abi_of s.kept.now p) m
    s.signed_bits) c.args.cursor.now c.step_by_copy.new.cursor c.step_by_copy.new.out in
    let done = c.step_by_copy.ensures.done (λ is. different (sym c.in-Written.is ∙ is)) (λ _. e.cie.augmentation.is_signal)
    (λ _. is_signed_in e.cie.cie e.fde c.args.linked) s.signed_bits refl (sym (c.signed_bits_by-bits.ensures c.args.address)) in
    subst (λ (r : LookedUpRow). step r (pointer_of s) (memory_of s)) c.new-rows.ensures
    (subst (λ (p : Option ℕ). step c.new-rows.result p (memory_of s)) c.pointer.ensures
    (subst (λ (m : ℕ → Option ℕ). step c.new-rows.result c.pointer.result m) c.memory.ensures done))
