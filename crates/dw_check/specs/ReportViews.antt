-- The report's line on one of the code's checked expressions.
use Rattle.std.specs.Prelude.{ℕ, List}
use Rattle.dw_stack.specs.declared.checked.CheckedExpression.{CheckedExpression}
use Rattle.dw_stack.specs.Certificates.{checked_of}
use Rattle.dw_stack.specs.Located.{located_of}
use Rattle.dw_check.specs.Report.{expression_line}
use Rattle.dw_sections.specs.declared.section.Section.{Section}

-- the report's line on an expression, which is given with its offset in the section
abbrev pub line_of : Section → ℕ × CheckedExpression → List ℕ
line_of section x = expression_line section (located_of x) (checked_of x.1).depth
