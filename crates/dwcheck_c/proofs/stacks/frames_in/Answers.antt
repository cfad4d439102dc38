use Rattle.std.proofs.Common.{Option, subst, sym}
use Rattle.dw_process.specs.Processes.{ProcessState}
use Rattle.dw_c_types.specs.Frames.{IsBacktrace, stop_number}
use Rattle.dw_c_types.specs.Machine.{abi_in, memory_of, registers_of}
use Rattle.dwcheck_c.proofs.stacks.frames_in.Goals as goal

pub returns-in-None-clause-frames : goal.returns-in-None-clause-frames
returns-in-None-clause-frames g c =
    let state = c.args.state.now in
    subst (λ (held : Option ProcessState). IsBacktrace held (abi_in state) (memory_of state) state.signed_bits (registers_of state) c.args.address c.args.frames.now
    c.write_uncovered.new.slots c.write_uncovered.result.0 (stop_number c.write_uncovered.result.1)) (sym (c.in-None.ensures).0)
    (c.write_uncovered.ensures (abi_in state) (memory_of state) (registers_of state) state.signed_bits)
