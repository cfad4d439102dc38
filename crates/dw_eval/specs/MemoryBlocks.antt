-- Memory of which only one block of bytes is known.
use Rattle.std.specs.Prelude.{ℕ, ◌-◌, nat_le, if◌then◌else◌, List, slice_get, Option, None}

-- the byte at the address `a`, if `a` is in the block `bytes` that begins at the address `base`;
-- none otherwise
abbrev pub block_byte : ℕ → List ℕ → ℕ → Option ℕ
block_byte base bytes a = if nat_le base a then slice_get bytes (a - base) else None
