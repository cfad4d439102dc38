use Rattle.std.proofs.Common.{length, ◌-◌}
use Rattle.std.specs.Option.{option_to_list}
use Rattle.dw_c_types.proofs.FirstTwice.{NoneBefore}
use Rattle.dw_c_types.proofs.state.fault_of_abi.Given as goal

abbrev pub invariant-loop-place : goal.invariant-loop-place
invariant-loop-place l = NoneBefore l.kept (option_to_list l.stack_pointer) l.place

abbrev pub decreases-loop-place : goal.decreases-loop-place
decreases-loop-place l = length l.kept - l.place
