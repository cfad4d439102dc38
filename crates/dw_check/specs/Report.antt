-- The text that `check` writes for two sections without a fault: the report.
use Rattle.std.specs.Prelude.{◌≡◌, ℕ, ◌+◌, List, [], ◌∷◌, ◌++◌, length, codes, decimal}
use Rattle.dw_rows.specs.Section.{FrameSection, row_count}
use Rattle.dw_stack.specs.declared.state.Kind.{Kind}
use Rattle.dw_stack.specs.declared.state.Kind.TheVariants.{FrameCfa, FrameRegister, Location}
use Rattle.dw_stack.specs.Expressions.{IsDepthOf, operations_in}
use Rattle.dw_stack.specs.Located.{LocatedExpression}
use Rattle.dw_loclists.specs.Reading.{ListSection, tables_in, lists_in, located_in}
use Rattle.dw_bytes.specs.Text.{offset_text}
use Rattle.dw_sections.specs.Text.{section_text}
use Rattle.dw_sections.specs.declared.section.Section.{Section}
use Rattle.dw_sections.specs.declared.section.Section.TheVariants as sections

-- ---- the counts

-- a number after the name of what it counts
unfoldable pub count_text : List ℕ → ℕ → List ℕ
count_text name number = name ++ decimal number

-- a number after the name of what it counts, at the end of a line
unfoldable pub last_count_text : List ℕ → ℕ → List ℕ
last_count_text name number = name ++ decimal number ++ codes "\n"

unfoldable pub frame_counts_line : ℕ → ℕ → ℕ → List ℕ
frame_counts_line cies fdes rows = codes "cies " ++ decimal cies ++ codes " fdes " ++ decimal fdes ++ codes " rows " ++ decimal rows
    ++ codes "\n"

unfoldable pub expressions_text : ℕ → List ℕ
expressions_text expressions = last_count_text (codes " expressions ") expressions

unfoldable pub lists_counts_line : ℕ → ℕ → ℕ → List ℕ
lists_counts_line tables lists expressions = count_text (codes "tables ") tables ++ count_text (codes " lists ") lists
    ++ expressions_text expressions

abbrev pub frame_line : FrameSection → List ℕ
frame_line frame = frame_counts_line (length frame.cies) (length frame.fdes) (row_count frame)

-- the numbers of tables, lists and expressions; the expressions are those of both sections, and
-- each has a line in the report
abbrev pub lists_line : FrameSection → ListSection → List ℕ
lists_line frame lists = lists_counts_line (length (tables_in lists)) (length (lists_in lists))
    (length frame.expressions + length (located_in lists))

unfoldable pub summary_text : FrameSection → ListSection → List ℕ
summary_text frame lists = codes "accepted\n" ++ frame_line frame ++ lists_line frame lists

-- ---- an expression

abbrev pub expression_kind_text : Kind → List ℕ
expression_kind_text FrameCfa = codes "cfa"
expression_kind_text FrameRegister = codes "register"
expression_kind_text Location = codes "location"

-- the line of an expression: its section, the offset of its first byte, its kind, its number of
-- operations, and its greatest stack depth on any path
unfoldable pub expression_line : Section → LocatedExpression → ℕ → List ℕ
expression_line section x depth = codes "expr " ++ section_text section ++ codes " " ++ offset_text x.offset ++ codes " "
    ++ expression_kind_text x.kind ++ codes " ops " ++ decimal (length (operations_in x.target x.bytes))
    ++ codes " depth " ++ decimal depth ++ codes "\n"

-- the text has a line for each expression of the list, in the order of the list, and nothing else
abbrev pub AreLines : Section → List LocatedExpression → List ℕ → Type 0
AreLines section [] text = text ≡ []
AreLines section (x ∷ xs) text = (depth : ℕ) × (rest : List ℕ) × IsDepthOf x.kind x.target x.bytes depth
    × AreLines section xs rest × (text ≡ expression_line section x depth ++ rest)

-- ---- the report

pub record IsReport (frame : FrameSection) (lists : ListSection) (text : List ℕ) : Type 0 where
  pub frame_lines : List ℕ
  pub of_frame : AreLines sections.Frame frame.expressions frame_lines
  pub lines : List ℕ
  pub of_lists : AreLines sections.Lists (located_in lists) lines
  pub whole : text ≡ summary_text frame lists ++ (frame_lines ++ lines)
