-- The names of sections, and the text of a fault that a check of two sections has found.
use Rattle.std.specs.Prelude.{ℕ, List, ◌++◌, codes}
use Rattle.dw_bytes.specs.Text.{fault_text}
use Rattle.dw_sections.specs.declared.whole_check.CheckFault.{CheckFault}
use Rattle.dw_sections.specs.declared.section.Section.{Section}
use Rattle.dw_sections.specs.declared.section.Section.TheVariants as sections

abbrev pub section_text : Section → List ℕ
section_text sections.Frame = codes "frame"
section_text sections.Lists = codes "lists"
section_text sections.Expression = codes "expression"

-- the fault of a check of two sections: the section that has the fault, and then the fault
unfoldable pub check_fault_text : CheckFault → List ℕ
check_fault_text found = section_text found.section ++ codes ": " ++ fault_text found.fault
