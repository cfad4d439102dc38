use Rattle.std.proofs.Common.{◌-◌, ◌≡◌, ◌≤◌, List, length}
use Rattle.dw_rules.specs.Abi.{abi_of}
use Rattle.dw_unwind.specs.Walks.{Place}
use Rattle.dw_c_types.specs.Frames.{IsLeftAt}
use Rattle.dw_c_types.specs.ProcessWalks.{through_process}
use Rattle.dw_c_types.specs.declared.answer.CFrame.{CFrame}
use Rattle.dwcheck_c.specs.WalkCursors.{place_of}
use Rattle.dwcheck_c.proofs.backtrace.write_usual_steps.Given as goal

abbrev pub invariant-loop-count : goal.invariant-loop-count
invariant-loop-count g l = record {
  left : (first : Place) (old : List CFrame)
      → IsLeftAt (through_process (abi_of l.kept l.pointer) (g.M.Memory.bytes l.memory) l.bits l.process) first (place_of l.initial.cursor) old
      l.initial.slots l.from
      → IsLeftAt (through_process (abi_of l.kept l.pointer) (g.M.Memory.bytes l.memory) l.bits l.process) first
      (place_of (record { registers = l.cursor.registers; address = l.address; stage = l.stage; reserved = l.cursor.reserved })) old l.slots l.count;
  begun : l.stage ≤ 1;
  more : l.from ≤ l.count;
  few : l.count ≤ length l.slots;
  long : length l.slots ≡ length l.initial.slots;
}

abbrev pub decreases-loop-count : goal.decreases-loop-count
decreases-loop-count g l = length l.slots - l.count
