use Rattle.std.proofs.Common.{subst, sym}
use Rattle.std.specs.Prelude.{Option}
use Rattle.dw_process.specs.Processes.{ProcessState}
use Rattle.dw_c_types.specs.ProcessWalks.{through_held}
use Rattle.dw_c_types.specs.Machine.{abi_in, memory_of}
use Rattle.dwcheck_c.specs.WalkCursors.{IsStepBy}
use Rattle.dwcheck_c.proofs.cursor.dwcheck_cursor_step.Goals as goal

pub returns-in_default-clause-done : goal.returns-in_default-clause-done
returns-in_default-clause-done c = λ is.
    let abi = abi_in c.args.state.now in
    let memory = memory_of c.args.state.now in
    let bits = c.args.state.now.signed_bits in
    subst (λ (p : Option ProcessState). IsStepBy (through_held abi memory bits p) c.args.cursor.now c.step_uncovered.new.cursor c.step_uncovered.new.out)
    (sym c.in_default.ensures.0) (c.step_uncovered.ensures.done abi memory bits is)
