use Rattle.std.proofs.Common.{◌≡◌, take}
use Rattle.dw_c_types.specs.Slots.{put_into}
use Rattle.dw_c_types.proofs.slots.write_all.Given as goal

abbrev pub invariant-loop-index : goal.invariant-loop-index
invariant-loop-index l = l.slots ≡ put_into (take l.index l.bytes) l.initial.slots
