-- Look-ups in place of rows that are as compilers write nearly all rows.
use Rattle.std.specs.Prelude.{◌≡◌, ℕ, [], Option, Some, None, Result, Ok}
use Rattle.dw_bytes.specs.declared.fault.Fault.{Fault}
use Rattle.dw_compact_rows.specs.CompactRuns.{row_of_compact, state_with}
use Rattle.dw_compact_rows.specs.CompactRules.{stored_in}
use Rattle.dw_compact_rows.specs.declared.one_pass.CompactRow.{CompactRow}
use Rattle.dw_rules.specs.Expressions.{expressions_of}
use Rattle.dw_rules.specs.ProgramFault.{cie_fault}
use Rattle.dw_rules.specs.RuleSet.{StoredRules}
use Rattle.dw_rows.specs.Section.{Covers, IsChecked}
use Rattle.dw_eh_frame.specs.Records.{EhFde}
use Rattle.dw_eh_frame.specs.Views.{eh_fde_of}
use Rattle.dw_in_place.specs.InPlace.{SectionInPlace, alone, row_of_fde}
use Rattle.dw_in_place.specs.Known.{IsSoughtRow}
use Rattle.dw_in_place.specs.declared.compact.CompactAnswer.{CompactAnswer}
use Rattle.dw_in_place.specs.declared.compact.CompactAnswer.TheVariants.{Row, Nothing, Unsure}

-- The FDE covers the address, is an accepted section together with its CIE, and has this row there.
pub record HasCompactRow (s : SectionInPlace) (a : ℕ) (e : EhFde) (row : CompactRow) : Type 0 where
  pub covers : Covers e.fde a
  pub checked : IsChecked (alone s.target s.bytes e)
  pub has : row_of_fde s.target s.bytes e a ≡ Some (row_of_compact row)

-- What a look-up says about what it was to find: an FDE with its row, or that there is none. Unsure says
-- nothing.
abbrev pub IsCompactAnswer : SectionInPlace → ℕ → Result (Option EhFde) Fault → CompactAnswer → Type 0
IsCompactAnswer s a found (Row row fde) = (found ≡ Ok (Some (eh_fde_of fde))) × HasCompactRow s a (eh_fde_of fde) row
IsCompactAnswer s a found Nothing = found ≡ Ok None
IsCompactAnswer s a found Unsure = Unit {0}

-- the programs of the FDE and its CIE have no fault and no expressions, and they make this row
pub record IsCompactRowOf (e : EhFde) (a : ℕ) (row : CompactRow) : Type 0 where
  pub cie : cie_fault e.cie.cie ≡ None
  pub plain : expressions_of e.cie.cie.program ≡ []
  pub initial : StoredRules
  pub sought : IsSoughtRow e a (row.start, row.end) (state_with initial (stored_in row.rules))
