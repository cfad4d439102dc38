use Rattle.std.proofs.Common.{◌≡◌, length, take}
use Rattle.dw_c_types.specs.Machine.{byte_in}
use Rattle.dw_c_types.proofs.Assembled.{Gathered}
use Rattle.dw_c_types.proofs.memory.Blocks.read_by_bytes.Given as goal

abbrev pub invariant-loop-index : goal.invariant-loop-index
invariant-loop-index l = record {
  long : length l.bytes ≡ 8;
  gathered : Gathered (byte_in l.self) l.address l.size l.index (take l.index l.bytes);
}
