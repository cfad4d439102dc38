use Rattle.std.proofs.Common.{◌≡◌, length, take}
use Rattle.std.specs.Ordering.{nat_cmp}
use Rattle.std.specs.BTreeMap.{get}
use Rattle.dw_state.proofs.Assembled.{Gathered}
use Rattle.dw_state.proofs.machine_state.MachineStateMemory.read.Given as goal

abbrev pub invariant-loop-index : goal.invariant-loop-index
invariant-loop-index l = record {
  long : length l.bytes ≡ 8;
  gathered : Gathered (get nat_cmp l.self.memory) l.address l.size l.index (take l.index l.bytes);
}
