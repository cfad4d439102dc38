use Rattle.std.proofs.Common.{◌≡◌, ◌≤◌, ◌<◌, ◌-◌, ℕ}
use Rattle.std.specs.Prelude.{None}
use Rattle.dw_unwind.specs.Contents.{contents_in}
use Rattle.dw_c_types.specs.Machine.{register_in}
use Rattle.dwcheck_c.proofs.cursor.fill.Given as goal

abbrev pub invariant-loop-number : goal.invariant-loop-number
invariant-loop-number l = record {
  few : l.number ≤ 96;
  low : (r : ℕ) → r < l.number → contents_in l.file r ≡ register_in l.registers.contents.now l.registers.known.now r;
  high : (r : ℕ) → l.number ≤ r → contents_in l.file r ≡ None;
}

abbrev pub decreases-loop-number : goal.decreases-loop-number
decreases-loop-number l = 96 - l.number
