-- What the code's state lines and machine states mean.
use Rattle.std.specs.Prelude.{◌≡◌, ℕ, List, Result, Ok, Err}
use Rattle.std.specs.Ordering.{nat_cmp}
use Rattle.std.specs.BTreeMap.{get}
use Rattle.dw_state.specs.declared.machine_state.MachineState.{MachineState}
use Rattle.dw_state.specs.StateFile.{StateFact, KnownState, IsGivenBy, register, bytes, cfa, frame_base, object, keep, stack_pointer}
use Rattle.dw_state.specs.declared.state_fault.StateFault.{StateFault}
use Rattle.dw_state.specs.declared.state_fault.StateFault.TheVariants as faults
use Rattle.dw_state.specs.declared.state_line.StateLine.{StateLine}
use Rattle.dw_state.specs.declared.state_line.StateLine.TheVariants as lines

abbrev pub fact_of : StateLine → StateFact
fact_of (lines.Register n v) = register n v
fact_of (lines.Memory a bs) = bytes a bs.items
fact_of (lines.Cfa v) = cfa v
fact_of (lines.FrameBase v) = frame_base v
fact_of (lines.Object v) = object v
fact_of (lines.Keep n) = keep n
fact_of (lines.StackPointer n) = stack_pointer n

abbrev pub known_state_of : MachineState → KnownState
known_state_of m = record {
  registers = get nat_cmp m.registers;
  memory = get nat_cmp m.memory;
  cfa = m.cfa;
  frame_base = m.frame_base;
  object = m.object;
  kept = m.abi_registers.kept.items;
  stack_pointer = m.abi_registers.stack_pointer;
}

-- the state file has no bad line, and the machine state is exactly what the file gives
abbrev pub IsStateOf : Result (List StateFact) ℕ → MachineState → Type 0
IsStateOf given m = (facts : List StateFact) × (given ≡ Ok facts) × IsGivenBy (known_state_of m) facts

-- Why there is no machine state: the state file has a bad line, and `Line` has the number of the
-- first one; or memory ran out.
abbrev pub IsBadState : Result (List StateFact) ℕ → StateFault → Type 0
IsBadState given (faults.Line n) = given ≡ Err n
IsBadState given faults.Memory = Unit {0}
