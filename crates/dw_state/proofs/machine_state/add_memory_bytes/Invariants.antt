use Rattle.std.proofs.Common.{◌≡◌, ℕ, take}
use Rattle.std.specs.Ordering.{nat_cmp}
use Rattle.std.specs.BTreeMap.{get}
use Rattle.std.specs.Option.{option_or}
use Rattle.dw_state.specs.StateFile.{bytes, byte_in}
use Rattle.dw_state.proofs.machine_state.add_memory_bytes.Given as goal

abbrev pub invariant-loop-index : goal.invariant-loop-index
invariant-loop-index l = (a : ℕ) → get nat_cmp l.memory a ≡ option_or (get nat_cmp l.fn.memory a)
    (byte_in a (bytes l.address (take l.index l.bytes)))
