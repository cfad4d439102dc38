use Rattle.std.proofs.Common.{◌≡◌, ◌<◌, ℕ, drop, get_or, if◌then◌else◌, length}
use Rattle.dw_rules.specs.Abi.{is_among}
use Rattle.dw_unwind.specs.declared.register_file.TheConstants.{PLACES}
use Rattle.dw_unwind.proofs.kept_registers.marks_of.Given as goal

-- a register is marked, or among the remaining numbers, exactly if it is among all numbers
abbrev pub invariant-loop-number : goal.invariant-loop-number
invariant-loop-number l = record {
  long : length l.marks ≡ PLACES;
  each : (r : ℕ) → r < PLACES → (if is_among r (drop l.number-index l.numbers) then 1 else get_or l.marks r 0) ≡ (if is_among r l.numbers then 1 else 0);
}
