-- When two sections are well formed, and the first fault of two sections (DWARF 5, sections 6.4.1
-- and 7.29).
use Rattle.std.specs.Prelude.{◌≡◌, ◌⊎◌, ℕ, ◌<◌, ◌^◌, nat_lt, if◌then◌else◌, List, [], length, Option, Some, None, Result, Ok, Err}
use Rattle.std.specs.Option.{option_or}
use Rattle.dw_bytes.specs.declared.target.Target.{Target}
use Rattle.dw_bytes.specs.declared.fault.Fault.{Fault}
use Rattle.dw_bytes.specs.declared.fault.FaultKind.TheVariants.{SectionTooLong}
use Rattle.dw_bytes.specs.Answers.{memory}
use Rattle.dw_rows.specs.Section.{section_fault}
use Rattle.dw_rows.specs.WellFormed as frame
use Rattle.dw_loclists.specs.Reading.{lists_fault}
use Rattle.dw_loclists.specs.Lists as tables
use Rattle.dw_sections.specs.declared.whole_check.CheckFault.{CheckFault}
use Rattle.dw_sections.specs.declared.section.Section.{Section}
use Rattle.dw_sections.specs.declared.section.Section.TheVariants.{Frame, Lists, Expression}

-- Both sections are shorter than 2^32 bytes (a rule of dwcheck, not of DWARF), and each is well
-- formed by itself. The frame section is CIEs and FDEs whose programs pass the check, and no two
-- FDEs cover the same address. The other section is tables of location lists whose expressions pass
-- the check.
pub record AreWellFormed (target : Target) (frame_bytes list_bytes : List ℕ) : Type 0 where
  pub frame_is_short : length frame_bytes < 2 ^ 32
  pub lists_are_short : length list_bytes < 2 ^ 32
  pub frame_is_right : frame.IsWellFormed target frame_bytes
  pub lists_are_right : tables.IsWellFormed target list_bytes

-- ---- the first fault

-- the fault, if there is one, together with the section that has it
abbrev pub fault_within : Section → Option Fault → Option CheckFault
fault_within section None = None
fault_within section (Some fault) = Some (record { section = section; fault = fault })

-- the fault of a section or an expression of 2^32 bytes or more
abbrev pub too_long : Fault
too_long = record { kind = SectionTooLong; at = 0 }

abbrev pub length_fault : List ℕ → Option Fault
length_fault bytes = if nat_lt (length bytes) (2 ^ 32) then None else Some too_long

-- the first fault of both sections: their lengths are checked first, then their contents, each time
-- the frame section first
unfoldable pub check_fault : Target → List ℕ → List ℕ → Option CheckFault
check_fault target frame_bytes list_bytes =
    option_or (fault_within Frame (length_fault frame_bytes))
    (option_or (fault_within Lists (length_fault list_bytes))
    (option_or (fault_within Frame (section_fault target frame_bytes))
    (fault_within Lists (lists_fault target list_bytes))))

-- What a check may return if `first` is the first fault, or None if there is no fault. It succeeds
-- only without a fault. Its error is the first fault, or says that memory ran out.
abbrev pub Checks : {X : Type 0} → Option CheckFault → Result X CheckFault → Type 0
Checks first (Ok _) = first ≡ None
Checks first (Err found) = (found.fault ≡ memory) ⊎ (first ≡ Some found)

-- The bytes in which a fault's offset counts: the frame section or the section of location lists.
-- `check` never gives `Expression` as the section of a fault, so there are no bytes for that case.
abbrev pub bytes_within : Section → List ℕ → List ℕ → List ℕ
bytes_within Frame frame_bytes list_bytes = frame_bytes
bytes_within Lists frame_bytes list_bytes = list_bytes
bytes_within Expression frame_bytes list_bytes = []
