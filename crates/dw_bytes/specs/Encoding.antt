-- Which bytes encode which number. A byte is a number below 256, and a list of bytes is a list of
-- such numbers.
use Rattle.std.specs.Prelude.{◌≡◌, ◌<◌, ◌≤◌, ◌+◌, ◌*◌, ◌^◌, ◌%◌, ◌-◌, ℕ, ℤ, pos, ◌-ℤ◌, Bool, slice_index, nat_le, if◌then◌else◌, List, []}
use Rattle.std.specs.Prelude.{◌∷◌, ◌++◌, length, FitsSigned}
use Rattle.std.specs.Int.{w64}
use Rattle.byteorder.specs.Endian.{big_number, little_number}
use Rattle.dw_bytes.specs.declared.target.Target.{Target}
use Rattle.dw_bytes.specs.declared.target.AddressSize.{AddressSize}
use Rattle.dw_bytes.specs.declared.target.AddressSize.TheVariants.{Four, Eight}
use Rattle.dw_bytes.specs.declared.target.Order.{Order}
use Rattle.dw_bytes.specs.declared.target.Order.TheVariants.{Little, Big}
use Rattle.dw_bytes.specs.declared.target.Format.{Format}
use Rattle.dw_bytes.specs.declared.target.Format.TheVariants.{Dwarf32, Dwarf64}

-- the number that the first n bytes make: the least significant byte first (Little) or last (Big)
abbrev pub number : Order → ℕ → List ℕ → ℕ
number Little n bytes = little_number n bytes
number Big n bytes = big_number n bytes

-- n bytes, whose value is the list of these bytes itself
pub record Bytes (n : ℕ) (bytes : List ℕ) (v : List ℕ) : Type 0 where
  pub count : length bytes ≡ n
  pub value : v ≡ bytes

-- n bytes encode the number v in the given byte order
pub record Fixed (order : Order) (n : ℕ) (bytes : List ℕ) (v : ℕ) : Type 0 where
  pub count : length bytes ≡ n
  pub value : v ≡ number order n bytes

abbrev pub bytes_of_address : AddressSize → ℕ
bytes_of_address Four = 4
bytes_of_address Eight = 8

-- the greatest address
abbrev pub max_address : AddressSize → ℕ
max_address size = 2 ^ (8 * bytes_of_address size) - 1

abbrev pub Address : Target → List ℕ → ℕ → Type 0
Address target bytes v = Fixed target.order (bytes_of_address target.address_size) bytes v

abbrev pub bytes_of_offset : Format → ℕ
bytes_of_offset Dwarf32 = 4
bytes_of_offset Dwarf64 = 8

abbrev pub Offset : Order → Format → List ℕ → ℕ → Type 0
Offset order format bytes v = Fixed order (bytes_of_offset format) bytes v

-- the low seven bits of each byte, weighted by powers of 128, the least significant byte first
abbrev pub groups : List ℕ → ℕ
groups [] = 0
groups (b ∷ bs) = b % 128 + 128 * groups bs

-- At least one byte. All bytes but the last have the high bit set, and the last doesn't.
abbrev pub IsChain : List ℕ → Type 0
IsChain [] = ⊥
IsChain (b ∷ []) = b < 128
IsChain (b ∷ c ∷ bs) = (128 ≤ b) × IsChain (c ∷ bs)

-- The bytes are a LEB128 number of at most ten bytes, padded or not. Its value v is what `meaning`
-- computes from the bytes, and v fits the result's type.
pub record Leb {X : Type 0} (meaning : List ℕ → X) (Fits : X → Type 0) (bytes : List ℕ) (v : X) : Type 0 where
  pub chain : IsChain bytes
  pub short : length bytes ≤ 10
  pub value : v ≡ meaning bytes
  pub fits : Fits v

-- unsigned LEB128 that fits 64 bits
abbrev pub Uleb : List ℕ → ℕ → Type 0
Uleb bytes v = Leb groups (λ n. n < 2 ^ 64) bytes v

-- whether bit 6 of the last byte is set, which is the sign bit of a signed LEB128 number
abbrev pub is_negative : List ℕ → Bool
is_negative bytes = nat_le 64 (slice_index bytes (length bytes - 1) % 128)

-- the number that the low seven bits of each byte make, as a two's complement number
abbrev pub signed_groups : List ℕ → ℤ
signed_groups bytes = if is_negative bytes then pos (groups bytes) -ℤ pos (128 ^ length bytes) else pos (groups bytes)

-- signed LEB128 that fits 64 bits
abbrev pub Sleb : List ℕ → ℤ → Type 0
Sleb bytes v = Leb signed_groups (FitsSigned w64) bytes v

-- The initial length of a record or table: four bytes that make a number below 0xfffffff0, or four
-- bytes that make 0xffffffff and then a length of eight bytes.
abbrev pub InitialLength : Order → List ℕ → Format → ℕ → Type 0
InitialLength order bytes Dwarf32 v = Fixed order 4 bytes v × (v < 0xfffffff0)
InitialLength order bytes Dwarf64 v = (mark rest : List ℕ) × (bytes ≡ mark ++ rest) × Fixed order 4 mark 0xffffffff × Fixed order 8 rest v

-- the initial length of a record or table, with the format and the length as one pair
abbrev pub InitialLengthPair : Order → List ℕ → Format × ℕ → Type 0
InitialLengthPair order bytes v = InitialLength order bytes v.0 v.1
