-- Encoded pointers (LSB Core, section 10.5.1): a byte says how a number is written, and which
-- address it is relative to.
use Rattle.std.specs.Prelude.{ℕ, ◌+◌, ◌*◌, ◌^◌, ◌-◌, ◌%◌, ◌&&◌, ◌==◌, nat_lt, Bool, if◌then◌else◌, Option, Some, None, Result, Ok, Err}
use Rattle.std.specs.Int.{w64, cast_unsigned}
use Rattle.dw_bytes.specs.declared.target.Target.{Target}
use Rattle.dw_bytes.specs.declared.fault.Fault.{Fault}
use Rattle.dw_bytes.specs.declared.fault.FaultKind.TheVariants.{Augmentation, RangePastTop}
use Rattle.dw_bytes.specs.Encoding.{bytes_of_address}
use Rattle.dw_bytes.specs.Reading.{ReadPosition, ◌>>=◌, take_at, fixed_at, address_at, uleb_at, sleb_at}
use Rattle.dw_bytes.specs.Fields.{ok_unless, unless}
use Rattle.dw_frame.specs.Sections.{top_of, ends_by}
use Rattle.dw_eh_frame.specs.declared.pointer.PointerFormat.{PointerFormat}
use Rattle.dw_eh_frame.specs.declared.pointer.PointerFormat.TheVariants.{Address, Uleb, U16, U32, U64, Sleb, I16, I32, I64}
use Rattle.dw_eh_frame.specs.declared.pointer.PointerBase.{PointerBase}
use Rattle.dw_eh_frame.specs.declared.pointer.PointerBase.TheVariants.{Absolute, Place, Text, Data, Aligned}
use Rattle.dw_eh_frame.specs.declared.pointer.PointerEncoding.{PointerEncoding}
use Rattle.dw_eh_frame.specs.declared.pointer.Bases.{Bases}

-- ---- the byte of an encoding

-- DW_EH_PE_absptr, uleb128, udata2, udata4, udata8, sleb128, sdata2, sdata4, sdata8
abbrev pub format_of : ℕ → Option PointerFormat
format_of code =
    if code == 0x00 then Some Address
    else if code == 0x01 then Some Uleb
    else if code == 0x02 then Some U16
    else if code == 0x03 then Some U32
    else if code == 0x04 then Some U64
    else if code == 0x09 then Some Sleb
    else if code == 0x0a then Some I16
    else if code == 0x0b then Some I32
    else if code == 0x0c then Some I64
    else None

abbrev pub with_base : PointerBase → Option PointerFormat → Option PointerEncoding
with_base base None = None
with_base base (Some format) = Some (record { format = format; base = base })

-- The encodings of an FDE's addresses that are read: absolute ones; those that are relative to the
-- address of the pointer itself, with DW_EH_PE_pcrel (0x10), or to the address of text or of data,
-- with DW_EH_PE_textrel (0x20) or DW_EH_PE_datarel (0x30); and DW_EH_PE_aligned (0x50).
abbrev pub encoding_of : ℕ → Option PointerEncoding
encoding_of code =
    if nat_lt code 0x10 then with_base Absolute (format_of code)
    else if nat_lt code 0x20 then with_base Place (format_of (code - 0x10))
    else if nat_lt code 0x30 then with_base Text (format_of (code - 0x20))
    else if nat_lt code 0x40 then with_base Data (format_of (code - 0x30))
    else if code == 0x50 then Some (record { format = Address; base = Aligned })
    else None

-- ---- the number that a pointer holds

-- the number n, which the given number of bytes hold as two's complement, as a number of 64 bits
abbrev pub sign_extended : ℕ → ℕ → ℕ
sign_extended bytes n = if nat_lt n (2 ^ (8 * bytes - 1)) then n else n + (2 ^ 64 - 2 ^ (8 * bytes))

-- reading the number, as a number of 64 bits
abbrev pub number_at : PointerFormat → ReadPosition → Result (ℕ × ReadPosition) Fault
number_at Address r = address_at r
number_at Uleb r = uleb_at r
number_at U16 r = fixed_at 2 r
number_at U32 r = fixed_at 4 r
number_at U64 r = fixed_at 8 r
number_at Sleb r = sleb_at r >>= λ z. Ok (cast_unsigned w64 z.0, z.1)
number_at I16 r = fixed_at 2 r >>= λ n. Ok (sign_extended 2 n.0, n.1)
number_at I32 r = fixed_at 4 r >>= λ n. Ok (sign_extended 4 n.0, n.1)
number_at I64 r = fixed_at 8 r

-- ---- an FDE's first address, and its number of addresses

-- what a pointer's number is added to, for a pointer at an offset of the section, if it is known
abbrev pub base_at : Bases → PointerBase → ℕ → Option ℕ
base_at bases Absolute at = Some 0
base_at bases Aligned at = Some 0
base_at bases Place at = Some ((bases.section + at) % 2 ^ 64)
base_at bases Text at = bases.text_start
base_at bases Data at = bases.data_start

-- An aligned pointer lies at the next address that is a multiple of an address's size. The number
-- of bytes before it:
abbrev pub padding_at : Bases → Target → PointerBase → ℕ → ℕ
padding_at bases target Aligned at =
    (bytes_of_address target.address_size - (bases.section + at) % bytes_of_address target.address_size)
    % bytes_of_address target.address_size
padding_at bases target _ at = 0

-- a base that isn't known
abbrev pub known_base : Option ℕ → ReadPosition → Result ℕ Fault
known_base None r = Err (record { kind = Augmentation; at = r.position })
known_base (Some base) r = Ok base

-- the sum modulo 2^w, where w is the size of an address in bits
abbrev pub wrapped : Target → ℕ → ℕ
wrapped target n = n % 2 ^ (8 * bytes_of_address target.address_size)

-- reading an encoded address
unfoldable pub pointer_at : Bases → PointerEncoding → ReadPosition → Result (ℕ × ReadPosition) Fault
pointer_at bases encoding r = do
  base ← known_base (base_at bases encoding.base r.position) r
  place ← take_at (padding_at bases r.target encoding.base r.position) r
  number ← number_at encoding.format place.1
  Ok (wrapped r.target (base + number.0), number.1)

-- A number of addresses is below 2^63, so that none is negative, and leads at most to the highest
-- address. The limit for unsigned numbers too is this reader's own.
abbrev pub is_range : Target → ℕ → ℕ → Bool
is_range target initial range = ends_by (top_of target) initial range && nat_lt range (2 ^ 63)

-- Reading the number of addresses of an FDE: it is written in the same format as the first address,
-- and isn't relative to anything.
unfoldable pub range_at : PointerFormat → ℕ → ReadPosition → Result (ℕ × ReadPosition) Fault
range_at format initial r = do
  number ← number_at format r
  ok_unless (unless (is_range r.target initial number.0) RangePastTop) r.position number
