-- Sections whose FDEs are listed before their programs are checked. The crates above use this file
-- where they list a section; what is promised of a checked section doesn't need it.
use Rattle.std.specs.Prelude.{◌≡◌, ◌≢◌, ℕ, ◌<◌, List, [], length, None, slice_get, slice_index_or, Some}
use Rattle.dw_frame.specs.Records.{Cie, Fde, Record}
use Rattle.dw_frame.specs.Bounds.{ArePlaced}
use Rattle.dw_stack.specs.Located.{LocatedExpression}
use Rattle.dw_rules.specs.Expressions.{cie_expressions, expressions_of}
use Rattle.dw_rules.specs.Initial.{AreLeftBy}
use Rattle.dw_rules.specs.ProgramFault.{cie_fault}
use Rattle.dw_rules.specs.RuleSet.{StoredRules}
use Rattle.dw_rows.specs.declared.index.IndexEntry.{IndexEntry}
use Rattle.dw_rows.specs.AddressIndex.{IsAddressIndex}
use Rattle.dw_rows.specs.Section.{FrameSection, IsChecked, first_fault, frame_with, overlap_fault, placed_rows, pointer_fault, program_fault}
use Rattle.dw_rows.specs.Section.{row_count}

-- The section's CIEs and FDEs are those of records that lie in it, one after another. Each CIE_pointer is
-- the offset of a CIE, the CIEs' programs have no fault, and no address is covered by two FDEs. The
-- programs of FDEs may have faults.
pub record IsListed (s : FrameSection) : Type 0 where
  pub records : List Record
  pub placed : ArePlaced s.target 0 (length s.section) records
  pub whole : s ≡ frame_with s.target s.section records
  pub pointers : first_fault (pointer_fault s.cies) s.fdes ≡ None
  pub cie_programs : first_fault cie_fault s.cies ≡ None
  pub apart : first_fault (overlap_fault s.fdes) s.fdes ≡ None

-- What a listed section stores: its CIEs and FDEs (`s`), the rules that the CIEs' programs leave (`left`),
-- and an index of its FDEs in order of address.
pub record IsListedWith (s : FrameSection) (left : List StoredRules) (index : List IndexEntry) : Type 0 where
  pub listed : IsListed s
  pub left_by : AreLeftBy s.cies left
  pub index_of : IsAddressIndex s.fdes index

-- What a checked section stores besides: its expressions, how many of them belong to CIEs (`count`), and
-- how many rows its FDEs have.
pub record IsKept (s : FrameSection) (expressions : List LocatedExpression) (count rows : ℕ) : Type 0 where
  pub checked : IsChecked s
  pub all : expressions ≡ s.expressions
  pub in_cies : count ≡ length (cie_expressions s.cies)
  pub row_count : rows ≡ row_count s

-- ---- programs that were checked before

-- in place of a number of rows: the FDE's program isn't checked yet, or it has expressions
abbrev pub not_counted : ℕ
not_counted = 0xffffffff

-- The FDE's program has no fault and no expression, and the FDE has `count` rows.
pub record IsCounted (cies : List Cie) (f : Fde) (count : ℕ) : Type 0 where
  pub good : program_fault cies f ≡ None
  pub plain : expressions_of f.program ≡ []
  pub rows : length (placed_rows cies f) ≡ count

-- Of the FDEs at the indices of `counts`, those with a number have that many rows, and programs without a
-- fault or an expression.
abbrev pub AreCounted : List Cie → List Fde → List ℕ → Type 0
AreCounted cies fdes counts = (k d : ℕ) (f : Fde) → k < length counts → slice_get fdes k ≡ Some f
    → slice_index_or counts k d ≢ not_counted → IsCounted cies f (slice_index_or counts k d)
