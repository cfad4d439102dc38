use Rattle.std.proofs.Common.{◌∙◌, Option, refl, subst, sym, ℕ}
use Rattle.std.specs.Prelude.{None}
use Rattle.dw_rules.specs.Abi.{abi_of}
use Rattle.dw_unwind.specs.Walks.{UnwindsAt}
use Rattle.dw_process.specs.Processes.{is_signal_in, is_signed_in}
use Rattle.dw_c_types.specs.ProcessWalks.{Unwinding, through_process}
use Rattle.dwcheck_c.specs.declared.cursor.CCursor.{CCursor}
use Rattle.dwcheck_c.specs.WalkCursors.{registers_in}
use Rattle.dwcheck_c.proofs.CursorSteps.{step-uncovered}
use Rattle.dwcheck_c.proofs.cursor.other_step.Goals as goal

pub returns-in_default-clause-done : goal.returns-in_default-clause-done
returns-in_default-clause-done g c = λ _.
    let u : Unwinding =
    through_process (abi_of c.args.kept.now c.args.stack_pointer) (g.M.Memory.bytes c.args.memory.now) c.args.bits c.args.process.now in
    let old : CCursor = c.args.cursor.now in
    step-uncovered u old c.end_uncovered.new.cursor c.end_uncovered.new.out
    (subst (λ (at : Option ℕ). UnwindsAt u.callers (registers_in old) at None) (sym c.in_default.is ∙ c.looked_up.ensures) refl)
    c.end_uncovered.ensures.cursor c.end_uncovered.ensures.frame

pub returns-clause-done : goal.returns-clause-done
returns-clause-done g c = λ some. c.step_by_copy.ensures.done some (is_signal_in c.args.process.now) (is_signed_in c.args.process.now)
    c.args.bits (sym c.is_signal_frame.ensures) (sym c.signed_bits_at.ensures)
