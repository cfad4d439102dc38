-- A whole `.eh_frame` section: what is read of it, its first fault, and when it is well formed. It is
-- read as CIEs and FDEs of DWARF, so rules, rows and faults are those of DWARF 5, section 6.4, but for
-- what the dialects of programs add, and the CFA's rule that a CIE's program may imply.
use Rattle.std.specs.Prelude.{◌≡◌, ℕ, Bool, List, [], None, Option}
use Rattle.std.specs.Option.{option_or}
use Rattle.dw_bytes.specs.declared.target.Target.{Target}
use Rattle.dw_bytes.specs.declared.fault.Fault.{Fault}
use Rattle.dw_eh_frame.specs.declared.pointer.Bases.{Bases}
use Rattle.dw_eh_frame.specs.Copies.{distinct, eh_frame_records}
use Rattle.dw_eh_frame.specs.Encoding.{AreEhRecords}
use Rattle.dw_bytes.specs.Answers.{values_in}
use Rattle.dw_eh_frame.specs.Records.{EhRecord, eh_reading_fault, eh_records_of, all_in_dwarf}
use Rattle.dw_rows.specs.Section.{FrameSection, frame_with, parts_fault}
use Rattle.dw_rows.specs.WellFormed.{AreGood}

-- the section with its CIEs, its FDEs and their expressions; exact copies of FDEs are left out
abbrev pub eh_frame_of : Bool → Bases → Target → List ℕ → FrameSection
eh_frame_of is_aarch64 bases target section = frame_with target section (eh_frame_records is_aarch64 bases target section)

-- the section with all its CIEs and FDEs, exact copies of FDEs too
abbrev pub eh_frame_with_copies : Bool → Bases → Target → List ℕ → FrameSection
eh_frame_with_copies is_aarch64 bases target section =
    frame_with target section (all_in_dwarf (values_in (eh_records_of is_aarch64 bases target section)))

-- the section is read without a fault, and its records have none with all copies of FDEs
abbrev pub AllAreGood : Bool → Bases → Target → List ℕ → Type 0
AllAreGood is_aarch64 bases target section =
    (eh_reading_fault is_aarch64 bases target section ≡ None)
    × (parts_fault (eh_frame_with_copies is_aarch64 bases target section).cies
    (eh_frame_with_copies is_aarch64 bases target section).fdes ≡ None)

-- the first fault of a section: the first fault in reading its records, or else the first fault of
-- the programs and the addresses of its CIEs and FDEs, in the order of `.debug_frame`
unfoldable pub eh_section_fault : Bool → Bases → Target → List ℕ → Option Fault
eh_section_fault is_aarch64 bases target section =
    option_or (eh_reading_fault is_aarch64 bases target section)
    (parts_fault (eh_frame_of is_aarch64 bases target section).cies (eh_frame_of is_aarch64 bases target section).fdes)

-- The section's bytes are the encodings of records, without gaps; the CIE of each FDE is one of the
-- records before it (`AreEhRecords`). As DWARF has them, and without exact copies of FDEs, these
-- records are good.
pub record IsEhWellFormed (is_aarch64 : Bool) (bases : Bases) (target : Target) (section : List ℕ) : Type 0 where
  pub records : List EhRecord
  pub encoded : AreEhRecords is_aarch64 bases target [] 0 section records
  pub good : AreGood (distinct (all_in_dwarf records))
