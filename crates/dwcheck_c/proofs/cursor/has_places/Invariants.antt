use Rattle.std.proofs.Common.{◌≡◌, ◌≤◌, ◌<◌, ◌-◌, ℕ, length}
use Rattle.std.specs.Prelude.{None}
use Rattle.dw_c_types.specs.Machine.{register_in}
use Rattle.dwcheck_c.proofs.cursor.has_places.Given as goal

abbrev pub invariant-loop-number : goal.invariant-loop-number
invariant-loop-number l = record {
  from : 96 ≤ l.number;
  none : (r : ℕ) → 96 ≤ r → r < l.number → register_in l.registers.contents.now l.registers.known.now r ≡ None;
}

abbrev pub decreases-loop-number : goal.decreases-loop-number
decreases-loop-number l = length l.registers.contents.now - l.number
