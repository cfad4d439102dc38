-- The records of an `.eh_frame` section, and how they are read (LSB Core, section 10.6.1).
use Rattle.std.specs.Prelude.{ℕ, ◌-◌, ◌==◌, nat_le, Bool, true, false, if◌then◌else◌, List, [], ◌∷◌, ◌++◌, length, Option, Some, None, Result, Ok, Err}
use Rattle.std.specs.List.{filter_map, list_any}
use Rattle.std.specs.Option.{option_or}
use Rattle.dw_bytes.specs.declared.target.Target.{Target}
use Rattle.dw_bytes.specs.declared.target.Format.{Format}
use Rattle.dw_bytes.specs.declared.fault.Fault.{Fault}
use Rattle.dw_bytes.specs.declared.fault.FaultKind.TheVariants.{Version, NoSuchCie}
use Rattle.dw_bytes.specs.Reading.{ReadPosition, ◌>>=◌, section_from, fixed_at}
use Rattle.dw_bytes.specs.Operands.{fixed, block_at}
use Rattle.dw_bytes.specs.Fields.{unless, field_at, fields_at}
use Rattle.dw_bytes.specs.Bodies.{framed_at}
use Rattle.dw_bytes.specs.Sequence.{sequence_of}
use Rattle.dw_frame.specs.Dialects.{in_dialect}
use Rattle.dw_frame.specs.Records.{is_version, Cie, Fde, Record, cie_record, fde_record}
use Rattle.dw_frame.specs.Sections.{CieHeader, past_augmentation}
use Rattle.dw_eh_frame.specs.declared.augmentation.Augmentation.{Augmentation}
use Rattle.dw_eh_frame.specs.declared.pointer.Bases.{Bases}
use Rattle.dw_eh_frame.specs.Dialects.{dialect_for}
use Rattle.dw_eh_frame.specs.Pointers.{pointer_at, range_at}
use Rattle.dw_eh_frame.specs.Augmentations.{string_at, eh_data_at, augmentation_at}

-- ---- the records

-- What a CIE says before its program: what a CIE of `.debug_frame` says too, and its augmentation.
pub record EhCieHead : Type 0 where
  pub numbers : CieHeader
  pub augmentation : Augmentation

-- A CIE: the record of DWARF, and its augmentation.
pub record EhCie : Type 0 where
  pub cie : Cie
  pub augmentation : Augmentation

-- An FDE: the record of DWARF, whose CIE_pointer is the offset of its CIE, and that CIE.
pub record EhFde : Type 0 where
  pub fde : Fde
  pub cie : EhCie

-- A record of length 0 marks the end of a section. Objects that were linked together without being
-- read, as by `ld -r`, have such records between others, so it says nothing here.
pub data EhRecord : Type 0 where
  eh_cie : EhCie → EhRecord
  eh_fde : EhFde → EhRecord
  eh_nothing : ℕ → EhRecord

-- ---- reading a CIE

-- The fields of a CIE after its id: the version; the augmentation's string, and with the letters eh
-- an address; what follows the string in `.debug_frame` too: in version 4 the two sizes, and in
-- every version the alignment factors and the return address register; and the augmentation's data.
unfoldable pub eh_cie_head_at : ReadPosition → Result (EhCieHead × ReadPosition) Fault
eh_cie_head_at r = do
  version ← field_at (fixed 1) (λ number. unless (is_version number) Version) r
  letters ← string_at version.1
  after_data ← eh_data_at letters.0 letters.1
  numbers ← fields_at (past_augmentation (λ header. header) r.target version.0) after_data
  augmentation ← augmentation_at version.1.position letters.0 numbers.1
  Ok (record { numbers = numbers.0; augmentation = augmentation.0 }, augmentation.1)

-- a CIE with this head whose record begins at the offset `at`, and whose program is left at r
abbrev pub eh_cie_with : Bool → ℕ → Format → EhCieHead → ReadPosition → EhCie
eh_cie_with is_aarch64 at format head r = record {
  cie = record {
    offset = at;
    format = format;
    version = head.numbers.version;
    code_alignment_factor = head.numbers.code_alignment_factor;
    data_alignment_factor = head.numbers.data_alignment_factor;
    return_address_register = head.numbers.return_address_register;
    program = in_dialect (dialect_for is_aarch64 head.augmentation) r;
  };
  augmentation = head.augmentation;
}

-- a CIE whose record begins at the offset `at`, read from the offset after its id on
unfoldable pub eh_cie_from : Bool → ℕ → Format → ReadPosition → Result EhCie Fault
eh_cie_from is_aarch64 at format r = do
  head ← eh_cie_head_at r
  Ok (eh_cie_with is_aarch64 at format head.0 head.1)

-- the CIE that begins at an offset of a section: its id is 0
unfoldable pub eh_cie_at : Bool → Target → List ℕ → ℕ → Result EhCie Fault
eh_cie_at is_aarch64 target section at = do
  framed ← framed_at (section_from target section at)
  id ← fixed_at 4 framed.0.1
  if id.0 == 0 then eh_cie_from is_aarch64 at framed.0.0 id.1 else Err (record { kind = NoSuchCie; at = at })

-- ---- reading an FDE

-- any fault as a CIE pointer that leads to no CIE
abbrev pub no_such_cie : {X : Type 0} → ℕ → Result X Fault → Result X Fault
no_such_cie place (Ok x) = Ok x
no_such_cie place (Err fault) = Err (record { kind = NoSuchCie; at = place })

-- The CIE of an FDE. Its CIE pointer, at the offset `place`, is how far the CIE begins before that
-- offset.
abbrev pub eh_cie_before : Bool → Target → List ℕ → ℕ → ℕ → Result EhCie Fault
eh_cie_before is_aarch64 target section place back =
    if nat_le back place then no_such_cie place (eh_cie_at is_aarch64 target section (place - back))
    else Err (record { kind = NoSuchCie; at = place })

-- the augmentation data of an FDE: a size and as many bytes, if its CIE has augmentation data
abbrev pub eh_area_at : Bool → ReadPosition → Result ReadPosition Fault
eh_area_at true r = block_at r >>= λ area. Ok area.1
eh_area_at false r = Ok r

-- an FDE whose record begins at the offset `at`, with these addresses, whose program is left at r
abbrev pub eh_fde_with : ℕ → Format → ℕ → EhCie → ℕ → ℕ → ReadPosition → EhFde
eh_fde_with at format place cie initial range r = record {
  fde = record {
    offset = at;
    format = format;
    cie_pointer = cie.cie.offset;
    cie_pointer_offset = place;
    initial_location = initial;
    address_range = range;
    program = in_dialect cie.cie.program.dialect r;
  };
  cie = cie;
}

-- An FDE whose record begins at the offset `at`, read from the offset after its CIE pointer on.
unfoldable pub eh_fde_from : Bases → ℕ → Format → ℕ → EhCie → ReadPosition → Result EhFde Fault
eh_fde_from bases at format place cie r = do
  initial ← pointer_at bases cie.augmentation.addresses r
  range ← range_at cie.augmentation.addresses.format initial.0 initial.1
  program ← eh_area_at cie.augmentation.has_data range.1
  Ok (eh_fde_with at format place cie initial.0 range.0 program)

-- ---- reading a section

-- The body of a record begins with four bytes, in the 64-bit format too: 0 in a CIE, and the CIE
-- pointer in an FDE.
unfoldable pub eh_full_at : Bool → Bases → List ℕ → ℕ → Format → ReadPosition → ℕ × ReadPosition → Result EhRecord Fault
eh_full_at is_aarch64 bases section at format body id =
    if id.0 == 0 then (eh_cie_from is_aarch64 at format id.1 >>= λ cie. Ok (eh_cie cie))
    else (eh_cie_before is_aarch64 body.target section body.position id.0 >>= λ cie.
    eh_fde_from bases at format body.position cie id.1 >>= λ fde. Ok (eh_fde fde))

-- a body of no bytes is a record of length 0
unfoldable pub eh_body_at : Bool → Bases → List ℕ → ℕ → Format → ReadPosition → Result EhRecord Fault
eh_body_at is_aarch64 bases section at format body =
    if length body.rest == 0 then Ok (eh_nothing at) else (fixed_at 4 body >>= eh_full_at is_aarch64 bases section at format body)

-- a record: its length and its body
unfoldable pub eh_record_at : Bool → Bases → List ℕ → ReadPosition → Result (EhRecord × ReadPosition) Fault
eh_record_at is_aarch64 bases section r = do
  framed ← framed_at r
  found ← eh_body_at is_aarch64 bases section r.position framed.0.0 framed.0.1
  Ok (found, framed.1)

-- the records of a section, from an offset on, up to its end or the first fault
unfoldable pub eh_records_from : Bool → Bases → Target → List ℕ → ℕ → List (Result EhRecord Fault)
eh_records_from is_aarch64 bases target section at =
    sequence_of (eh_record_at is_aarch64 bases section) (section_from target section at)

abbrev pub eh_records_of : Bool → Bases → Target → List ℕ → List (Result EhRecord Fault)
eh_records_of is_aarch64 bases target section = eh_records_from is_aarch64 bases target section 0

-- ---- the first fault in reading a section

abbrev pub begins_at : ℕ → EhRecord → Bool
begins_at at (eh_cie c) = c.cie.offset == at
begins_at at _ = false

-- the fault of an FDE whose CIE isn't one of the records before it
abbrev pub lost : EhFde → Fault
lost e = record { kind = NoSuchCie; at = e.fde.cie_pointer_offset }

-- the fault of a record that was read after the records `before`
abbrev pub earlier_cie_fault : List EhRecord → EhRecord → Option Fault
earlier_cie_fault before (eh_fde e) = if list_any (begins_at e.fde.cie_pointer) before then None else Some (lost e)
earlier_cie_fault before _ = None

-- the first fault of what is read after the records `before`
abbrev pub reading_fault_after : List EhRecord → List (Result EhRecord Fault) → Option Fault
reading_fault_after before [] = None
reading_fault_after before (Err fault ∷ items) = Some fault
reading_fault_after before (Ok x ∷ items) = option_or (earlier_cie_fault before x) (reading_fault_after (before ++ x ∷ []) items)

-- The first fault in reading a section: of the first record that can't be read, or that is an FDE
-- whose CIE isn't one of the records before it.
unfoldable pub eh_reading_fault : Bool → Bases → Target → List ℕ → Option Fault
eh_reading_fault is_aarch64 bases target section = reading_fault_after [] (eh_records_of is_aarch64 bases target section)

-- ---- as records of DWARF

-- a record as DWARF has it, unless its length is 0
abbrev pub in_dwarf : EhRecord → Option Record
in_dwarf (eh_cie e) = Some (cie_record e.cie)
in_dwarf (eh_fde e) = Some (fde_record e.fde)
in_dwarf (eh_nothing at) = None

abbrev pub all_in_dwarf : List EhRecord → List Record
all_in_dwarf records = filter_map in_dwarf records
