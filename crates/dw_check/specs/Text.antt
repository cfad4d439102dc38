-- The lines that a run writes for refusals, FDEs, rows and numbers: one definition per form of
-- line.
use Rattle.std.specs.Prelude.{ℕ, suc, ◌+◌, ◌<◌, ◌^◌, ℤ, pos, negsuc, List, [], ◌++◌, Option}
use Rattle.std.specs.Prelude.{Some, None, codes, decimal}
use Rattle.std.specs.List.{flat_map}
use Rattle.hex.specs.Hex.{encode_lower}
use Rattle.dw_bytes.specs.Text.{hex_number, offset_text, kind_text}
use Rattle.dw_bytes.specs.declared.fault.Fault.{Fault}
use Rattle.dw_bytes.specs.declared.target.AddressSize.{AddressSize}
use Rattle.dw_bytes.specs.declared.target.AddressSize.TheVariants.{Four, Eight}
use Rattle.dw_frame.specs.Records.{Cie, Fde}
use Rattle.dw_rules.specs.Rules.{Rule, Cfa, Row, default, undefined, same_value, offset, val_offset, register, expression, val_expression}
use Rattle.dw_rules.specs.Rules.{register_and_offset, cfa_expression}
use Rattle.dw_rows.specs.Section.{FrameSection, cie_in, rows_in, row_of}
use Rattle.dw_sections.specs.declared.section.Section.{Section}
use Rattle.dw_sections.specs.Text.{section_text}

-- ---- numbers

-- the number of hex digits of an address
abbrev pub digits_of : AddressSize → ℕ
digits_of Four = 8
digits_of Eight = 16

abbrev pub address_text : AddressSize → ℕ → List ℕ
address_text size n = hex_number (digits_of size) n

-- the addresses from start up to, not including, end
unfoldable pub range_text : AddressSize → ℕ → ℕ → List ℕ
range_text size start end = address_text size start ++ codes ".." ++ address_text size end

-- an integer with its sign in front; 0 has a plus sign
abbrev pub signed_text : ℤ → List ℕ
signed_text (pos n) = codes "+" ++ decimal n
signed_text (negsuc n) = codes "-" ++ decimal (suc n)

-- ---- a refusal

unfoldable pub refused_line : Section → Fault → List ℕ
refused_line section fault = codes "refused " ++ kind_text fault.kind ++ codes " " ++ section_text section
    ++ codes " " ++ offset_text fault.at ++ codes "\n"

-- ---- an FDE and its rows (DWARF 5, section 6.4.1)

-- the offsets of an FDE and of its CIE
unfoldable pub records_text : Cie → Fde → List ℕ
records_text cie fde = codes "fde " ++ offset_text fde.offset ++ codes " cie " ++ offset_text cie.offset

unfoldable pub fde_line : AddressSize → Cie → Fde → List ℕ
fde_line size cie fde = records_text cie fde ++ codes " " ++ range_text size fde.initial_location (fde.initial_location + fde.address_range)
    ++ codes " ra r" ++ decimal cie.return_address_register ++ codes "\n"

-- an expression: its bytes in hex
unfoldable pub expression_text : List ℕ → List ℕ
expression_text bytes = codes "expr(" ++ encode_lower bytes ++ codes ")"

-- The rule for the CFA. Every row of a checked section has one, so the text for None is never
-- shown.
abbrev pub cfa_text : Option Cfa → List ℕ
cfa_text (Some (register_and_offset r n)) = codes "r" ++ decimal r ++ signed_text n
cfa_text (Some (cfa_expression e)) = expression_text e.bytes
cfa_text None = []

-- the rule of a register; `default` isn't shown
abbrev pub rule_text : Rule → List ℕ
rule_text default = []
rule_text undefined = codes "u"
rule_text same_value = codes "s"
rule_text (offset n) = codes "[c" ++ signed_text n ++ codes "]"
rule_text (val_offset n) = codes "c" ++ signed_text n
rule_text (register r) = codes "r" ++ decimal r
rule_text (expression e) = codes "[" ++ expression_text e.bytes ++ codes "]"
rule_text (val_expression e) = expression_text e.bytes

abbrev pub register_text : ℕ × Rule → List ℕ
register_text (r, rule) = codes " r" ++ decimal r ++ codes "=" ++ rule_text rule

unfoldable pub row_line : AddressSize → Row → List ℕ
row_line size row = codes "row " ++ range_text size row.start row.end ++ codes " cfa=" ++ cfa_text row.cfa
    ++ flat_map register_text row.rules ++ codes "\n"

-- the end of an FDE's address range fits in the hex digits of an address of `size`, and so does
-- every address in the range
abbrev pub FitsFde : AddressSize → Fde → Type 0
FitsFde size fde = fde.initial_location + fde.address_range < 16 ^ digits_of size

-- the start and the end of a row fit in the hex digits of an address of `size`
pub record Fits (size : AddressSize) (row : Row) : Type 0 where
  pub start : row.start < 16 ^ digits_of size
  pub end : row.end < 16 ^ digits_of size

-- the line of an FDE and the lines of its rows; every FDE of a checked section has a CIE
abbrev pub lines_of : AddressSize → Option Cie → Fde → List Row → List ℕ
lines_of size (Some cie) fde rows = fde_line size cie fde ++ flat_map (row_line size) rows
lines_of size None fde rows = []

unfoldable pub fde_text : FrameSection → Fde → List ℕ
fde_text frame fde = lines_of frame.target.address_size (cie_in frame fde) fde (rows_in frame fde)

-- the lines of each FDE and its rows, in the order of the section
unfoldable pub frame_text : FrameSection → List ℕ
frame_text frame = flat_map (fde_text frame) frame.fdes

-- ---- an expression of a section, before its outcome

unfoldable pub expression_offset_line : ℕ → List ℕ
expression_offset_line at = codes "expr " ++ offset_text at ++ codes "\n"

-- ---- the row of an address

abbrev pub found_text : AddressSize → Option Row → List ℕ
found_text size (Some row) = row_line size row
found_text size None = codes "none\n"

unfoldable pub lookup_text : FrameSection → ℕ → List ℕ
lookup_text frame address = found_text frame.target.address_size (row_of frame address)
