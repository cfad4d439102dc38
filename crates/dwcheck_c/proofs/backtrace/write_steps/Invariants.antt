use Rattle.std.proofs.Common.{◌-◌, ◌≤◌, length}
use Rattle.dw_rules.specs.Abi.{abi_of}
use Rattle.dw_c_types.specs.Frames.{IsLeftAt}
use Rattle.dw_c_types.specs.ProcessWalks.{through_process}
use Rattle.dwcheck_c.specs.WalkCursors.{place_of}
use Rattle.dwcheck_c.proofs.backtrace.write_steps.Given as goal

abbrev pub invariant-loop-count : goal.invariant-loop-count
invariant-loop-count g l = record {
  left : IsLeftAt (through_process (abi_of l.kept l.pointer) (g.M.Memory.bytes l.memory) l.bits l.process) (place_of l.initial.cursor)
      (place_of l.cursor) l.initial.slots l.slots l.count;
  begun : l.cursor.stage ≤ 1;
  few : l.count ≤ length l.slots;
}

abbrev pub decreases-loop-count : goal.decreases-loop-count
decreases-loop-count g l = length l.slots - l.count
