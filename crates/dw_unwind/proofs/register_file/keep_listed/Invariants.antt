use Rattle.std.proofs.Common.{◌≡◌, ◌<◌, ℕ, drop, get_or, if◌then◌else◌, length}
use Rattle.dw_rules.specs.Abi.{is_among}
use Rattle.dw_unwind.specs.declared.register_file.TheConstants.{PLACES}
use Rattle.dw_unwind.proofs.register_file.keep_listed.Given as goal

-- a flag is done, or its register is among the remaining numbers
abbrev pub invariant-loop-number : goal.invariant-loop-number
invariant-loop-number l = record {
  long : length l.flags ≡ PLACES;
  each : (r : ℕ) → r < PLACES
      → (if is_among r (drop l.number-index l.numbers) then get_or l.old r 0 else get_or l.flags r 0)
      ≡ (if is_among r l.numbers then get_or l.old r 0 else 0);
}
