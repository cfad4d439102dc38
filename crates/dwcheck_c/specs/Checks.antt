-- How the first fault of a check is reported to C.
use Rattle.std.specs.Prelude.{◌≡◌, ℕ, Option, Some}
use Rattle.dw_sections.specs.declared.section.Section.{Section}
use Rattle.dw_sections.specs.declared.section.Section.TheVariants.{Frame, Lists, Expression}
use Rattle.dw_sections.specs.declared.whole_check.CheckFault.{CheckFault}
use Rattle.dw_c_types.specs.declared.fault.CFault.{CFault}
use Rattle.dw_c_types.specs.declared.fault.TheConstants.{IN_FRAME, IN_LISTS, IN_EXPRESSION}
use Rattle.dw_c_types.specs.Faults.{cfault_of}

-- the number that tells C which input the offset of a fault refers to: the frame section, the
-- location lists, or the expression
abbrev pub section_number : Section → ℕ
section_number Frame = IN_FRAME
section_number Lists = IN_LISTS
section_number Expression = IN_EXPRESSION

-- `first` is a fault, and `report` is C's struct for it
abbrev pub ReportsOf : Option CheckFault → CFault → Type 0
ReportsOf first report = (found : CheckFault) × (first ≡ Some found) × (report ≡ cfault_of (section_number found.section) found.fault)
