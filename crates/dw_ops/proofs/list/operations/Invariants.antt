use Rattle.std.proofs.Common.{◌≡◌, ◌≤◌, ◌-◌, ◌++◌, length, map}
use Rattle.dw_bytes.specs.Answers.{fault_in, values_in}
use Rattle.dw_ops.specs.Opcodes.{operations_of}
use Rattle.dw_ops.specs.Views.{bytes_of, reading_from, located_of}
use Rattle.dw_ops.proofs.list.operations.Given as goal

abbrev pub invariant-loop-at : goal.invariant-loop-at
invariant-loop-at l = record {
  within : l.at ≤ length (bytes_of l.expression);
  fault : fault_in (operations_of (reading_from l.expression 0)) ≡ fault_in (operations_of (reading_from l.expression l.at));
  list : values_in (operations_of (reading_from l.expression 0)) ≡ map located_of l.list.items
      ++ values_in (operations_of (reading_from l.expression l.at));
}

abbrev pub decreases-loop-at : goal.decreases-loop-at
decreases-loop-at l = length (bytes_of l.expression) - l.at
