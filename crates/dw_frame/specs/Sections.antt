-- How the records of a `.debug_frame` section are encoded (DWARF 5, sections 6.4.1 and 7.24), and
-- how they are read.
use Rattle.std.specs.Prelude.{◌≡◌, ◌+◌, ◌==◌, ℕ, ℤ, nat_le, if◌then◌else◌, Bool, List, [], ◌∷◌, ◌++◌, length, Option, Some, None, Result}
use Rattle.std.specs.Prelude.{Ok, Err}
use Rattle.dw_bytes.specs.declared.target.Target.{Target}
use Rattle.dw_bytes.specs.declared.target.Format.{Format}
use Rattle.dw_bytes.specs.declared.target.Format.TheVariants.{Dwarf32, Dwarf64}
use Rattle.dw_bytes.specs.declared.fault.Fault.{Fault}
use Rattle.dw_bytes.specs.declared.fault.FaultKind.{FaultKind}
use Rattle.dw_bytes.specs.declared.fault.FaultKind.TheVariants.{Version, Augmentation, AddressSize, SegmentSize, RegisterNumber}
use Rattle.dw_bytes.specs.declared.fault.FaultKind.TheVariants.{RangePastTop}
use Rattle.dw_bytes.specs.Encoding.{max_address, InitialLengthPair, bytes_of_address, bytes_of_offset}
use Rattle.dw_bytes.specs.Reading.{ReadPosition, ◌>>=◌, section_from}
use Rattle.dw_bytes.specs.Operands.{address, fixed, unsigned, signed}
use Rattle.dw_bytes.specs.Bodies.{framed_at}
use Rattle.dw_bytes.specs.Fields.{Fields, made, field, any, unless, byte, Encodes, fields_at}
use Rattle.dw_bytes.specs.Sequence.{Sequence, sequence_of}
use Rattle.dw_frame.specs.Dialects.{debug_frame, in_dialect}
use Rattle.dw_frame.specs.Records.{is_version, Cie, Record, cie_record, fde_record}

-- ---- headers

-- The fields between the length of a CIE and its program, except the fields that may have only one
-- value.
pub record CieHeader : Type 0 where
  pub version : ℕ
  pub code_alignment_factor : ℕ
  pub data_alignment_factor : ℤ
  pub return_address_register : ℕ

-- The fields between the length of an FDE and its program.
pub record FdeHeader : Type 0 where
  pub cie_pointer : ℕ
  pub initial_location : ℕ
  pub address_range : ℕ

pub data Header : Type 0 where
  cie_header : CieHeader → Header
  fde_header : FdeHeader → Header

-- the CIE_id, which begins the body of a CIE: an offset whose bits are all ones
abbrev pub cie_id : Format → ℕ
cie_id Dwarf32 = 0xffffffff
cie_id Dwarf64 = 0xffffffffffffffff

-- the greatest address
abbrev pub top_of : Target → ℕ
top_of target = max_address target.address_size

abbrev pub ends_by : ℕ → ℕ → ℕ → Bool
ends_by top initial range = nat_le (initial + range) top

abbrev pub is_register : ℕ → Bool
is_register number = nat_le number 65535

abbrev pub column_fault : ℕ → Option FaultKind
column_fault number = unless (is_register number) RegisterNumber

-- The return address register is one byte in version 1, and LEB128 since version 3.
abbrev pub return_column : {X : Type 0} → ℕ → (ℕ → Fields X) → Fields X
return_column version next =
    if version == 1 then field (fixed 1) column_fault next else field unsigned column_fault next

-- In every version the header of a CIE ends with both alignment factors and the return address
-- register. `make` says what is made of the header.
abbrev pub factors : {X : Type 0} → (CieHeader → X) → ℕ → Fields X
factors make version =
    any unsigned (λ code_alignment_factor.
    any signed (λ data_alignment_factor.
    return_column version (λ return_address_register.
    made (make (record {
      version = version;
      code_alignment_factor = code_alignment_factor;
      data_alignment_factor = data_alignment_factor;
      return_address_register = return_address_register;
    })))))

-- The fields of a CIE after the augmentation. In version 4 alone, two sizes come first: the address
-- size, which must be the target's, and the segment selector size, which must be 0. Then, in every
-- version, come the alignment factors and the return address register.
abbrev pub past_augmentation : {X : Type 0} → (CieHeader → X) → Target → ℕ → Fields X
past_augmentation make target version =
    if version == 4
    then byte AddressSize (bytes_of_address target.address_size) (byte SegmentSize 0 (factors make version))
    else factors make version

-- The fields of a CIE after the CIE_id: first the version, which decides what fields follow (6.4.1,
-- Appendix G), and the augmentation, which must be empty.
abbrev pub cie_fields : Target → Fields Header
cie_fields target =
    field (fixed 1) (λ number. unless (is_version number) Version) (λ version.
    byte Augmentation 0 (past_augmentation cie_header target version))

-- The fields of an FDE after the CIE_pointer: its first address, and the number of its addresses.
-- Their sum must be at most the highest address.
abbrev pub fde_fields : Target → ℕ → Fields Header
fde_fields target cie_pointer =
    any address (λ initial_location.
    field address (λ range. unless (ends_by (top_of target) initial_location range) RangePastTop) (λ address_range.
    made (fde_header (record { cie_pointer = cie_pointer; initial_location = initial_location; address_range = address_range }))))

-- The fields of a record's header. The record is a CIE if its body begins with the CIE_id, and
-- otherwise an FDE.
abbrev pub header_fields : Target → Format → Fields Header
header_fields target format =
    any (fixed (bytes_of_offset format)) (λ id.
    if id == cie_id format then cie_fields target else fde_fields target id)

abbrev pub IsHeader : Target → Format → ℕ → List ℕ → Header → Type 0
IsHeader target format = Encodes target (header_fields target format)

unfoldable pub header_at : Target → Format → ReadPosition → Result (Header × ReadPosition) Fault
header_at target format r = fields_at (header_fields target format) r

-- ---- records

-- a record, made of its offset, its format, its body's offset, its header and its program's bytes
abbrev pub record_from : ℕ → Format → ℕ → Header → ReadPosition → Record
record_from at format body (cie_header h) program =
    cie_record (record {
      offset = at;
      format = format;
      version = h.version;
      code_alignment_factor = h.code_alignment_factor;
      data_alignment_factor = h.data_alignment_factor;
      return_address_register = h.return_address_register;
      program = in_dialect debug_frame program;
    })
record_from at format body (fde_header h) program =
    fde_record (record {
      offset = at;
      format = format;
      cie_pointer = h.cie_pointer;
      cie_pointer_offset = body;
      initial_location = h.initial_location;
      address_range = h.address_range;
      program = in_dialect debug_frame program;
    })

-- A record is a length, and a body of that many bytes. The body is a header, and the rest of the
-- body is the program.
pub record IsRecord (target : Target) (at : ℕ) (bytes : List ℕ) (r : Record) : Type 0 where
  pub format : Format
  pub header : Header
  pub front : List ℕ
  pub fields : List ℕ
  pub program : List ℕ
  pub parts : bytes ≡ front ++ (fields ++ program)
  pub length_is : InitialLengthPair target.order front (format, length (fields ++ program))
  pub header_is : IsHeader target format (at + length front) fields header
  pub record_is : r ≡ record_from at format (at + length front) header
      (record { target = target; position = at + length front + length fields; rest = program })

-- which bytes encode a list of records, one after another without gaps
abbrev pub AreRecords : Target → ℕ → List ℕ → List Record → Type 0
AreRecords target = Sequence (IsRecord target)

-- reading a record: its length and its body, and then the header in that body
unfoldable pub record_at : ReadPosition → Result (Record × ReadPosition) Fault
record_at r = do
  framed ← framed_at r
  header ← header_at r.target framed.0.0 framed.0.1
  Ok (record_from r.position framed.0.0 framed.0.1.position header.0 header.1, framed.1)

-- reading the records of a section from an offset on
unfoldable pub records_from : Target → List ℕ → ℕ → List (Result Record Fault)
records_from target section at = sequence_of record_at (section_from target section at)

-- Reading the records of a section from left to right, up to the section's end or the first fault.
abbrev pub records_of : Target → List ℕ → List (Result Record Fault)
records_of target section = records_from target section 0

-- Searches the records in order for a CIE at the given offset. Gives that CIE, or the first fault
-- before it. If there is no such CIE, gives the first fault, or None if there is no fault.
abbrev pub cie_among : ℕ → List (Result Record Fault) → Result (Option Cie) Fault
cie_among offset [] = Ok None
cie_among offset (Ok (cie_record c) ∷ entries) = if c.offset == offset then Ok (Some c) else cie_among offset entries
cie_among offset (Ok (fde_record f) ∷ entries) = cie_among offset entries
cie_among offset (Err fault ∷ entries) = Err fault
