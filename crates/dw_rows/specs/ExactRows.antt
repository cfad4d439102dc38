-- The one row of an address in a section that is accepted, in the standard's words (DWARF 5,
-- section 6.4.1).
use Rattle.std.specs.Prelude.{◌≡◌, ℕ, [], ◌∷◌, Some, IfSome, Contains, filter}
use Rattle.dw_frame.specs.Records.{Cie, Fde}
use Rattle.dw_rules.specs.Rules.{PlacedRow, Row}
use Rattle.dw_rules.specs.RowsWithExpressions.{row_with_expressions, LendsCfa, LendsEach}
use Rattle.dw_rows.specs.UnwindRows.{has_address}
use Rattle.dw_rows.specs.GoodPrograms.{IsLast, IsGoodFdeProgram}
use Rattle.dw_rows.specs.Clauses.{IsRowAt, start_in, program_in}
use Rattle.dw_rows.specs.Section.{FrameSection, IsCoverOf, rows_in, row_of}

-- The address has exactly one row, and it is the one that the standard gives.
pub record HasOneRow (s : FrameSection) (a : ℕ) : Type 0 where
  -- exactly one FDE covers the address, and its CIE_pointer is the offset of this CIE
  pub fde : Fde
  pub covers : IsCoverOf s.fdes a (Some fde)
  pub cie : Cie
  pub among : Contains s.cies cie
  pub pointed : cie.offset ≡ fde.cie_pointer
  -- the programs of the FDE and of the CIE are good
  pub good : IsGoodFdeProgram cie fde
  -- exactly one of the FDE's rows covers the address
  pub row : Row
  pub one : filter (has_address a) (rows_in s fde) ≡ row ∷ []
  -- The row has the rules after the longest prefix of the program whose location is at most the
  -- address. It covers all of the FDE's addresses that have the same longest prefix.
  pub last : ℕ
  pub longest : IsLast (start_in cie fde good) (program_in cie fde good) a last
  pub placed : PlacedRow
  pub standard : IsRowAt (start_in cie fde good) (program_in cie fde good) last placed
  -- no other row has both the rules after that prefix and those addresses
  pub only : (other : PlacedRow) → IsRowAt (start_in cie fde good) (program_in cie fde good) last other → other ≡ placed
  -- `row` is `placed` with the section's expressions in place of their offsets. Each expression has
  -- the kind that its rule needs.
  pub given : row ≡ row_with_expressions s.expressions placed
  pub cfa_lent : IfSome placed.cfa (LendsCfa s.expressions)
  pub lent : LendsEach s.expressions placed.rules
  -- a look-up returns this row
  pub found : row_of s a ≡ Some row
