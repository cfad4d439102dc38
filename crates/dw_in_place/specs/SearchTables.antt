-- The binary search table of an `.eh_frame_hdr` section (LSB Core, section 10.6.2), in the encoding
-- that linkers write. It is meant to have an entry for each FDE of `.eh_frame`, in order of their
-- first addresses.
use Rattle.std.specs.Prelude.{ℕ, ◌+◌, ◌*◌, ◌%◌, ◌^◌, ◌<◌, ◌≤◌, ◌==◌, ◌&&◌, nat_le, Bool, false, if◌then◌else◌, List, ◌∷◌, length, drop}
use Rattle.std.specs.Prelude.{Option, Some, None}
use Rattle.dw_bytes.specs.declared.target.Target.{Target}
use Rattle.dw_bytes.specs.Encoding.{number}
use Rattle.dw_eh_frame.specs.Pointers.{sign_extended, wrapped}

-- A table: how its numbers are read, the address of its header, the address of `.eh_frame` that the
-- header has, the number of entries, and the header's bytes.
pub record Table : Type 0 where
  pub target : Target
  pub address : ℕ
  pub frame_address : ℕ
  pub count : ℕ
  pub bytes : List ℕ

-- ---- the header

-- the number in the four bytes at an offset
abbrev pub word_at : Target → List ℕ → ℕ → ℕ
word_at target bytes at = number target.order 4 (drop at bytes)

-- the address that the four bytes at an offset hold, as its signed distance from the address `base`
abbrev pub address_at : Target → ℕ → List ℕ → ℕ → ℕ
address_at target base bytes at = wrapped target (base + sign_extended 4 (word_at target bytes at))

-- The header begins with four bytes: the version, which is 1; how the address of `.eh_frame` is
-- written, here as a signed distance from its own place in four bytes (0x1b); how the number of
-- entries is written, here in four bytes (0x03); and how the entries are, here as signed distances
-- from the header's address in four bytes each (0x3b).
abbrev pub is_usual : List ℕ → Bool
is_usual (version ∷ frame ∷ count ∷ table ∷ _) = version == 1 && frame == 0x1b && count == 0x03 && table == 0x3b
is_usual _ = false

-- The address of `.eh_frame` follows, at offset 4, and the number of entries, at offset 8.
abbrev pub table_with : Target → ℕ → List ℕ → Table
table_with target address bytes = record {
  target = target;
  address = address;
  frame_address = address_at target ((address + 4) % 2 ^ 64) bytes 4;
  count = word_at target bytes 8;
  bytes = bytes;
}

-- The entries follow, at offset 12, with eight bytes each. A table can be used if the header is the
-- usual one and has all entries that it counts. Bytes after them say nothing.
abbrev pub table_in : Target → ℕ → List ℕ → Option Table
table_in target address bytes =
    if is_usual bytes && nat_le 12 (length bytes) && nat_le (12 + 8 * word_at target bytes 8) (length bytes)
    then Some (table_with target address bytes) else None

-- ---- entries

-- the first address of the FDE that an entry is for, and the address of the FDE's record
abbrev pub location_in : Table → ℕ → ℕ
location_in t k = address_at t.target t.address t.bytes (12 + 8 * k)

abbrev pub record_in : Table → ℕ → ℕ
record_in t k = address_at t.target t.address t.bytes (16 + 8 * k)

-- The entry k is that of the address a: it begins at that address or before it, and the next entry,
-- if there is one, begins after it.
pub record IsEntryFor (t : Table) (a k : ℕ) : Type 0 where
  pub within : k < t.count
  pub begins : location_in t k ≤ a
  pub next : k + 1 < t.count → a < location_in t (k + 1)

-- What a search for the address a finds, also in a table that is out of order: an entry for it; or
-- none, if there are no entries or the first one begins after it.
abbrev pub Finds : Table → ℕ → Option ℕ → Type 0
Finds t a None = 0 < t.count → a < location_in t 0
Finds t a (Some k) = IsEntryFor t a k

-- ---- tables in order, as linkers write them; several entries may begin at one address

abbrev pub IsInOrder : Table → Type 0
IsInOrder t = (j k : ℕ) → j ≤ k → k < t.count → location_in t j ≤ location_in t k

-- the last of the entries that begin at the address a or before it
pub record IsLastBy (t : Table) (a k : ℕ) : Type 0 where
  pub within : k < t.count
  pub begins : location_in t k ≤ a
  pub later : (j : ℕ) → k < j → j < t.count → a < location_in t j
