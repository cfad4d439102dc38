use Rattle.std.proofs.Common.{◌≡◌, map, take}
use Rattle.dw_c_types.specs.Callers.{cregister_of}
use Rattle.dw_c_types.specs.Slots.{put_into}
use Rattle.dw_c_types.proofs.callers.write_registers.Given as goal

abbrev pub invariant-loop-index : goal.invariant-loop-index
invariant-loop-index l = l.slots ≡ put_into (map cregister_of (take l.index l.found)) l.initial.slots
