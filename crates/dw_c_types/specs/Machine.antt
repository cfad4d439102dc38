-- The registers, the memory and the ABI that C passes.
use Rattle.std.specs.Prelude.{◌≡◌, ◌<◌, ◌≤◌, ◌+◌, length, ℕ, ◌/◌, ◌%◌, ◌^◌, ◌==◌, Bool, false, if◌then◌else◌, List, [], ◌∷◌, slice_get, Option, Some, None}
use Rattle.std.specs.Option.{option_or}
use Rattle.dw_bytes.specs.declared.fault.Fault.{Fault}
use Rattle.dw_eval.specs.MemoryBlocks.{block_byte}
use Rattle.dw_eval.specs.declared.memory_block.MemoryBlock.{MemoryBlock}
use Rattle.dw_rules.specs.Abi.{Abi, abi_of, abi_fault}
use Rattle.dw_c_types.specs.declared.memory.CBlock.{CBlock}
use Rattle.dw_c_types.specs.declared.state.CState.{CState}

-- bit n of a byte, where bit 0 is the least significant; false if there is no byte
abbrev pub bit_of : Option ℕ → ℕ → Bool
bit_of None n = false
bit_of (Some byte) n = byte / 2 ^ n % 2 == 1

abbrev pub is_known : List ℕ → ℕ → Bool
is_known known n = bit_of (slice_get known (n / 8)) (n % 8)

-- the content of register n: `contents[n]` if bit n % 8 of `known[n / 8]` is set, and None
-- otherwise
abbrev pub register_in : List ℕ → List ℕ → ℕ → Option ℕ
register_in contents known n = if is_known known n then slice_get contents n else None

-- the byte at an address, from the first block that contains the address; None if no block does
abbrev pub byte_in : List CBlock → ℕ → Option ℕ
byte_in [] a = None
byte_in (b ∷ blocks) a = option_or (block_byte b.base b.bytes.now a) (byte_in blocks a)

-- each byte of the block `first` is the one that these blocks have at its address
abbrev pub HasBytesOf : MemoryBlock → List CBlock → Type 0
HasBytesOf first blocks = (a byte : ℕ) → block_byte first.base first.bytes.now a ≡ Some byte → byte_in blocks a ≡ Some byte

-- A word of 8 bytes that begins less than `starts` above the start of the block is in the block,
-- and begins below 2^64 - 1.
pub record HasWords (block : MemoryBlock) (starts : ℕ) : Type 0 where
  pub inside : 0 < starts → starts + 7 ≤ length block.bytes.now
  pub below : block.base + starts < 2 ^ 64

-- ---- the state of a stopped thread

abbrev pub registers_of : CState → ℕ → Option ℕ
registers_of s = register_in s.contents.now s.known.now

abbrev pub memory_of : CState → ℕ → Option ℕ
memory_of s = byte_in s.blocks.now

-- the number of the stack pointer register; None if its flag is 0
abbrev pub pointer_by : ℕ → ℕ → Option ℕ
pointer_by flag n = if flag == 0 then None else Some n

abbrev pub pointer_of : CState → Option ℕ
pointer_of s = pointer_by s.has_stack_pointer s.stack_pointer

abbrev pub abi_in : CState → Abi
abi_in s = abi_of s.kept.now (pointer_of s)

abbrev pub abi_fault_of : CState → Option Fault
abi_fault_of s = abi_fault s.kept.now (pointer_of s)
