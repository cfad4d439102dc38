-- What is kept of a section that isn't accepted, if bad records are left out. A record is bad if it
-- can't be read, if it is an FDE whose CIE isn't kept, or if its program has a fault. Two faults are
-- still those of the section as a whole: a length that is reserved or goes past the section's end,
-- since nothing says where the next record begins; and two FDEs that cover one address, since nothing
-- says which of them is right.
use Rattle.std.specs.Prelude.{ℕ, Bool, List, [], ◌∷◌, ◌++◌, if◌then◌else◌, Option, Some, None, is_none, Ok, Err}
use Rattle.std.specs.List.{fold}
use Rattle.std.specs.Option.{option_or}
use Rattle.dw_bytes.specs.declared.target.Target.{Target}
use Rattle.dw_bytes.specs.declared.fault.Fault.{Fault}
use Rattle.dw_bytes.specs.Answers.{fault_in, values_in}
use Rattle.dw_frame.specs.Records.{Cie, cies_among}
use Rattle.dw_rules.specs.ProgramFault.{cie_fault}
use Rattle.dw_rows.specs.Section.{FrameSection, frame_with, parts_fault, pointer_fault, program_fault}
use Rattle.dw_eh_frame.specs.declared.pointer.Bases.{Bases}
use Rattle.dw_eh_frame.specs.Copies.{distinct}
use Rattle.dw_eh_frame.specs.Items.{Item, items_of}
use Rattle.dw_eh_frame.specs.Records.{EhRecord, eh_cie, eh_fde, eh_nothing, all_in_dwarf, eh_records_of}
use Rattle.dw_eh_rows.specs.Section.{eh_section_fault}
use Rattle.dw_eh_rows.specs.declared.kept_records.LeftOutRecord.{LeftOutRecord}

-- ---- one record

-- why a record is bad, after the CIEs that are kept; None if it isn't
abbrev pub fault_after : List Cie → EhRecord → Option Fault
fault_after cies (eh_cie e) = cie_fault e.cie
fault_after cies (eh_fde e) = option_or (pointer_fault cies e.fde) (program_fault cies e.fde)
fault_after cies (eh_nothing at) = None

-- ---- one record after another

-- The records that are kept, and those that are left out, each in the order of the section.
pub record Split : Type 0 where
  pub kept : List EhRecord
  pub left_out : List LeftOutRecord

abbrev pub leave_out : Split → ℕ → Fault → Split
leave_out s at fault = record { kept = s.kept; left_out = s.left_out ++ record { offset = at; fault = fault } ∷ [] }

abbrev pub keep_unless : Split → ℕ → EhRecord → Option Fault → Split
keep_unless s at x None = record { kept = s.kept ++ x ∷ []; left_out = s.left_out }
keep_unless s at x (Some fault) = leave_out s at fault

abbrev pub split_one : Split → Item → Split
split_one s (at, Err fault) = leave_out s at fault
split_one s (at, Ok x) = keep_unless s at x (fault_after (cies_among (all_in_dwarf s.kept)) x)

abbrev pub split_all : List Item → Split
split_all items = fold split_one (record { kept = []; left_out = [] }) items

-- ---- a section

-- the records of a section, split
unfoldable pub split_records : Bool → Bases → Target → List ℕ → Split
split_records is_aarch64 bases target section = split_all (values_in (items_of is_aarch64 bases target section))

abbrev pub all_records : Bool → Bases → Target → List ℕ → Split
all_records is_aarch64 bases target section = record { kept = values_in (eh_records_of is_aarch64 bases target section); left_out = [] }

-- by definition, a section that is accepted keeps all its records
abbrev pub kept_of : Bool → Bases → Target → List ℕ → Split
kept_of is_aarch64 bases target section =
    if is_none (eh_section_fault is_aarch64 bases target section) then all_records is_aarch64 bases target section
    else split_records is_aarch64 bases target section

-- the section with the CIEs and the FDEs that are kept, without exact copies of FDEs
abbrev pub kept_frame_of : Bool → Bases → Target → List ℕ → FrameSection
kept_frame_of is_aarch64 bases target section =
    frame_with target section (distinct (all_in_dwarf (kept_of is_aarch64 bases target section).kept))

-- the fault of a section that isn't accepted: that of a length, or else the first one of what is kept
abbrev pub split_fault : Bool → Bases → Target → List ℕ → Option Fault
split_fault is_aarch64 bases target section =
    option_or (fault_in (items_of is_aarch64 bases target section))
    (parts_fault (kept_frame_of is_aarch64 bases target section).cies (kept_frame_of is_aarch64 bases target section).fdes)

-- the fault of a section as a whole
unfoldable pub whole_fault : Bool → Bases → Target → List ℕ → Option Fault
whole_fault is_aarch64 bases target section =
    if is_none (eh_section_fault is_aarch64 bases target section) then None else split_fault is_aarch64 bases target section
