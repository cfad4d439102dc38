-- Compiled tables. A compiled table stores all rows of a section, so that look-ups no longer need
-- the section.
use Rattle.std.specs.Prelude.{◌≡◌, ℕ, ◌+◌, ◌*◌, Bool, List, Option, find, length}
use Rattle.std.specs.List.{sum_by}
use Rattle.dw_bytes.specs.declared.target.Target.{Target}
use Rattle.dw_frame.specs.Records.{Fde}
use Rattle.dw_stack.specs.Located.{LocatedExpression}
use Rattle.dw_rules.specs.Rules.{RowOver, Row}
use Rattle.dw_rows.specs.UnwindRows.{has_address}
use Rattle.dw_rows.specs.Section.{FrameSection, rows_in}
use Rattle.dw_rows.specs.RowLookups.{IsFoundAt}

-- Rows, each with its return address register, and the target that the section was read with.
-- `bytes` counts all that the table stores: 16 bytes for each entry (an entry says which rule set
-- holds from which address on), 64 for each rule set and 16 for each of its register rules, and
-- `expression_bytes` for each expression.
pub record RowTable : Type 0 where
  pub target : Target
  pub rows : List (Row × ℕ)
  pub bytes : ℕ

-- whether the row of a pair covers the address
abbrev pub has : {E : Type 0} → ℕ → RowOver E × ℕ → Bool
has address found = has_address address found.0

-- the row of an address in a table, with the row's return address register; None if no row covers
-- the address
abbrev pub row_at : RowTable → ℕ → Option (Row × ℕ)
row_at t address = find (has address) t.rows

-- The table gives the section's row at each address, and none if no FDE of the section covers the
-- address.
pub record IsTableOf (s : FrameSection) (t : RowTable) : Type 0 where
  pub target : t.target ≡ s.target
  pub row : (address : ℕ) → IsFoundAt s address (row_at t address)

-- ---- how many bytes of room are enough for a table, even if no rows share their rules

-- for an expression: 24 bytes, and its length
abbrev pub expression_bytes : LocatedExpression → ℕ
expression_bytes e = 24 + length e.bytes

-- for a row: 80 bytes, and 16 more for each register that has a rule other than default
abbrev pub row_bytes : {E : Type 0} → RowOver E → ℕ
row_bytes row = 80 + 16 * length row.rules

-- for the rows of an FDE: the bytes of each row, and 80 for an entry that ends the row before them
abbrev pub fde_bytes : FrameSection → Fde → ℕ
fde_bytes s f = 80 + sum_by row_bytes (rows_in s f)

-- for the rows of all FDEs: the bytes of each FDE, and 80 for an entry that ends the last row
abbrev pub all_rows_bytes : FrameSection → ℕ
all_rows_bytes s = 80 + sum_by (fde_bytes s) s.fdes

-- for the table: the rows of all FDEs, and all expressions
abbrev pub table_bytes : FrameSection → ℕ
table_bytes s = all_rows_bytes s + sum_by expression_bytes s.expressions
