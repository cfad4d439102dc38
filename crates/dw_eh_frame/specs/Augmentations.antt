-- Augmentations of CIEs (LSB Core, section 10.6.1.1.1): letters, and data that they describe.
use Rattle.std.specs.Prelude.{ℕ, ◌+◌, ◌/◌, ◌%◌, ◌==◌, ◌&&◌, Bool, true, false, if◌then◌else◌, List, [], ◌∷◌, length, take, drop, nat_lt, position}
use Rattle.std.specs.Prelude.{Option, Some, None, option_map, option_and_then, Result, Ok, Err}
use Rattle.dw_bytes.specs.declared.target.Target.{Target}
use Rattle.dw_bytes.specs.declared.fault.Fault.{Fault}
use Rattle.dw_bytes.specs.declared.fault.FaultKind.{FaultKind}
use Rattle.dw_bytes.specs.declared.fault.FaultKind.TheVariants.{Augmentation as BadAugmentation}
use Rattle.dw_bytes.specs.Encoding.{bytes_of_address}
use Rattle.dw_bytes.specs.Reading.{ReadPosition, ◌>>=◌, address_at, past_field}
use Rattle.dw_bytes.specs.Operands.{block_at}
use Rattle.dw_eh_frame.specs.declared.pointer.PointerFormat.TheVariants.{Address}
use Rattle.dw_eh_frame.specs.declared.pointer.PointerBase.TheVariants.{Absolute}
use Rattle.dw_eh_frame.specs.declared.augmentation.Augmentation.{Augmentation}
use Rattle.dw_eh_frame.specs.Pointers.{encoding_of}

-- ---- the string

-- the letters before the 0 that ends the string, and the string's size; at most eight letters
abbrev pub string_by : List ℕ → Option ℕ → Result (List ℕ × ℕ) FaultKind
string_by bytes None = Err BadAugmentation
string_by bytes (Some n) = Ok (take n bytes, n + 1)

abbrev pub string_of : List ℕ → Result (List ℕ × ℕ) FaultKind
string_of bytes = string_by bytes (position (λ b. b == 0) (take 9 bytes))

unfoldable pub string_at : ReadPosition → Result (List ℕ × ReadPosition) Fault
string_at r = past_field (string_of r.rest) r

-- ---- what the letters say

-- an augmentation without letters: FDEs have absolute addresses, and no augmentation data
abbrev pub no_letters : Augmentation
no_letters = record { has_data = false; addresses = record { format = Address; base = Absolute }; is_signal = false; has_key_b = false }

-- the size of a number with the format in the low four bits of an encoding, if it has a fixed size
abbrev pub fixed_size : Target → ℕ → Option ℕ
fixed_size target code =
    if code == 0x00 then Some (bytes_of_address target.address_size)
    else if code == 0x02 then Some 2
    else if code == 0x03 then Some 4
    else if code == 0x04 then Some 8
    else if code == 0x0a then Some 2
    else if code == 0x0b then Some 4
    else if code == 0x0c then Some 8
    else None

-- The size of the pointer to the personality routine, which isn't read; 0xff says that there is
-- none, and DW_EH_PE_aligned (0x50) isn't known here.
abbrev pub personality_size : Target → ℕ → Option ℕ
personality_size target code =
    if code == 0xff then Some 0 else if code / 16 % 8 == 5 then None else fixed_size target (code % 16)

-- the bytes without the first n, if there are as many
abbrev pub without : ℕ → List ℕ → Option (List ℕ)
without n bytes = if nat_lt (length bytes) n then None else Some (drop n bytes)

-- with the first byte of the data and what follows it
abbrev pub with_byte : {X : Type 0} → List ℕ → (ℕ → List ℕ → Option X) → Option X
with_byte [] next = None
with_byte (b ∷ area) next = next b area

-- What a letter says, given the data that is left: the augmentation with what it adds, and the data
-- after the letter's own. R: the encoding of the addresses of the FDEs. L: the encoding of their
-- pointers to language-specific data. P: the encoding of a pointer to a personality routine, and
-- that pointer. S: the FDEs are signal frames. B: return addresses are signed with aarch64's key B.
-- G: the frames' memory is tagged.
abbrev pub says : Target → ℕ → List ℕ → Augmentation → Option (Augmentation × List ℕ)
says target letter area a =
    if letter == 82 then with_byte area (λ code rest. option_map (λ encoding. (record a { addresses = encoding }, rest)) (encoding_of code))
    else if letter == 76 then with_byte area (λ code rest. Some (a, rest))
    else if letter == 80 then with_byte area (λ code rest.
    option_and_then (λ n. option_map (λ others. (a, others)) (without n rest)) (personality_size target code))
    else if letter == 83 then Some (record a { is_signal = true }, area)
    else if letter == 66 then Some (record a { has_key_b = true }, area)
    else if letter == 71 then Some (a, area)
    else None

-- what letters say one after another; further data says nothing
abbrev pub say : Target → List ℕ → List ℕ → Augmentation → Option Augmentation
say target [] area a = Some a
say target (letter ∷ letters) area a = option_and_then (λ said. say target letters said.1 said.0) (says target letter area a)

-- ---- the whole augmentation

-- the letters of GNU's first compilers, e (101) and h (104)
abbrev pub is_old : List ℕ → Bool
is_old (a ∷ b ∷ []) = a == 101 && b == 104
is_old _ = false

-- With them an address follows the string, which isn't read: that of a table about exceptions.
unfoldable pub eh_data_at : List ℕ → ReadPosition → Result ReadPosition Fault
eh_data_at letters r = if is_old letters then (address_at r >>= λ a. Ok a.1) else Ok r

abbrev pub known_or : ℕ → Option Augmentation → ReadPosition → Result (Augmentation × ReadPosition) Fault
known_or at None r = Err (record { kind = BadAugmentation; at = at })
known_or at (Some a) r = Ok (a, r)

-- Reading the augmentation data of a CIE whose string, at the offset `at`, has these letters. If
-- the first letter is z (122), a size and as many bytes of data follow; else there are none. An
-- augmentation that isn't known is reported at its string.
unfoldable pub augmentation_at : ℕ → List ℕ → ReadPosition → Result (Augmentation × ReadPosition) Fault
augmentation_at at [] r = Ok (no_letters, r)
augmentation_at at (letter ∷ letters) r =
    if letter == 122 then (block_at r >>= λ area.
    known_or at (say r.target letters area.0.bytes (record no_letters { has_data = true })) area.1)
    else if is_old (letter ∷ letters) then Ok (no_letters, r)
    else Err (record { kind = BadAugmentation; at = at })
