use Rattle.std.proofs.Common.{◌≡◌, drop}
use Rattle.dw_c_types.specs.Machine.{byte_in}
use Rattle.dw_c_types.proofs.memory.Blocks.byte.Given as goal

abbrev pub invariant-loop-block : goal.invariant-loop-block
invariant-loop-block l =
    byte_in l.self l.address ≡ byte_in (drop l.block-index l.self) l.address
