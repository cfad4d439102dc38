use Rattle.std.proofs.Common.{◌≡◌, ◌-◌, ◌≤◌, ℕ, List, Option, length}
use Rattle.std.specs.Prelude.{option_map}
use Rattle.dw_rules.specs.AbiViews.{roles_of}
use Rattle.dw_unwind.specs.UnwoundViews.{caller_with}
use Rattle.dw_unwind.specs.Walks.{Place, UnwindsAt}
use Rattle.dw_c_types.specs.Frames.{IsLeftAt}
use Rattle.dw_c_types.specs.ProcessWalks.{over_process, through_process}
use Rattle.dw_c_types.specs.declared.answer.CFrame.{CFrame}
use Rattle.dwcheck_c.proofs.backtrace.write_rest.Given as goal

abbrev pub invariant-loop-count : goal.invariant-loop-count
invariant-loop-count g l = record {
  left : (first : Place) (old : List CFrame)
      → IsLeftAt (through_process (roles_of l.abi) (g.M.Memory.bytes l.memory) l.bits l.process) first (record {
        address = l.fn.address;
        looked_up = l.fn.looked_up;
        registers = g.R.Registers.contents l.registers;
      }) old l.initial.slots l.from
      → (registers : ℕ → Option ℕ)
      × IsLeftAt (through_process (roles_of l.abi) (g.M.Memory.bytes l.memory) l.bits l.process) first (record {
        address = l.at;
        looked_up = l.place;
        registers = registers;
      }) old l.slots l.count
      × UnwindsAt (over_process (roles_of l.abi) (g.M.Memory.bytes l.memory) l.process) registers l.place
      (option_map (caller_with l.found) l.unwound);
  long : length l.slots ≡ length l.initial.slots;
  few : l.count ≤ length l.slots;
}

abbrev pub decreases-loop-count : goal.decreases-loop-count
decreases-loop-count g l = length l.slots - l.count
