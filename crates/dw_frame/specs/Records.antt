-- The records of a frame section, CIEs and FDEs, with their fields (DWARF 5, section 6.4.1).
use Rattle.std.specs.Prelude.{◌==◌, ◌||◌, ℕ, ℤ, Bool, List, Option, Some, None}
use Rattle.std.specs.List.{filter_map}
use Rattle.dw_bytes.specs.declared.target.Format.{Format}
use Rattle.dw_frame.specs.Dialects.{ProgramPosition}

-- The version of a CIE (Appendix G): 1 in DWARF 2, 3 in DWARF 3, and 4 in DWARF 4 and 5.
abbrev pub is_version : ℕ → Bool
is_version number = number == 1 || number == 3 || number == 4

-- A CIE: the offset of its record, its header, and its program, which is the rest of its body after
-- the header.
pub record Cie : Type 0 where
  pub offset : ℕ
  pub format : Format
  pub version : ℕ
  pub code_alignment_factor : ℕ
  pub data_alignment_factor : ℤ
  pub return_address_register : ℕ
  pub program : ProgramPosition

-- An FDE: the offset of its record, its header, the offset of its CIE_pointer field, and its
-- program, which is the rest of its body after the header.
pub record Fde : Type 0 where
  pub offset : ℕ
  pub format : Format
  pub cie_pointer : ℕ
  pub cie_pointer_offset : ℕ
  pub initial_location : ℕ
  pub address_range : ℕ
  pub program : ProgramPosition

pub data Record : Type 0 where
  cie_record : Cie → Record
  fde_record : Fde → Record

-- the CIEs among records, and the FDEs
abbrev pub cie_in_record : Record → Option Cie
cie_in_record (cie_record c) = Some c
cie_in_record (fde_record f) = None

abbrev pub fde_in_record : Record → Option Fde
fde_in_record (cie_record c) = None
fde_in_record (fde_record f) = Some f

abbrev pub cies_among : List Record → List Cie
cies_among records = filter_map cie_in_record records

abbrev pub fdes_among : List Record → List Fde
fdes_among records = filter_map fde_in_record records
