use Rattle.std.proofs.Common.{◌≡◌, map, take}
use Rattle.dw_c_types.specs.Slots.{put_into}
use Rattle.dwcheck_c.specs.LeftOutRecords.{shown_left_out}
use Rattle.dwcheck_c.proofs.left_out.write_left_out.Given as goal

abbrev pub invariant-loop-index : goal.invariant-loop-index
invariant-loop-index l = l.slots ≡ put_into (map shown_left_out (take l.index l.found)) l.initial.slots
