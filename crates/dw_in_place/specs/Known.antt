-- What a look-up in place keeps for the next one, and what its parts find.
use Rattle.std.specs.Prelude.{◌≡◌, ◌≤◌, ℕ, true, false, List, [], length, take, drop, Option, Some, None, option_map, IfSome, Ok}
use Rattle.dw_bytes.specs.Reading.{section_from}
use Rattle.dw_frame.specs.Bounds.{Ascends}
use Rattle.dw_stack.specs.Located.{LocatedExpression}
use Rattle.dw_rules.specs.ExpressionOrder.{expression_offset}
use Rattle.dw_rules.specs.Expressions.{expressions_of}
use Rattle.dw_rules.specs.ProgramFault.{cie_fault, fde_fault, lacks_cfa}
use Rattle.dw_rules.specs.ProgramState.{ProgramState, IsLeftBy, row_between}
use Rattle.dw_rules.specs.Rules.{Row}
use Rattle.dw_rules.specs.RowsWithExpressions.{row_with_expressions}
use Rattle.dw_rules.specs.RuleSet.{StoredRules, LendsRules}
use Rattle.dw_rows.specs.RowCursors.{IsAtRow}
use Rattle.dw_rows.specs.Section.{Covers, IsChecked}
use Rattle.dw_eh_frame.specs.declared.record.EhCie as declared
use Rattle.dw_eh_frame.specs.Records.{EhFde, eh_fde, eh_record_at}
use Rattle.dw_eh_frame.specs.Views.{IsCieOf, LiesAt, eh_cie_of, eh_fde_of, fde_with_cie}
use Rattle.dw_in_place.specs.declared.frame_in_place.FoundRow.{FoundRow}
use Rattle.dw_in_place.specs.declared.frame_in_place.Place.{Place}
use Rattle.dw_in_place.specs.declared.frame_in_place.Place.TheVariants as places
use Rattle.dw_in_place.specs.declared.in_place.KnownCie.{KnownCie}
use Rattle.dw_in_place.specs.declared.in_place.KnownAnswer.{KnownAnswer}
use Rattle.dw_in_place.specs.declared.in_place.KnownAnswer.TheVariants as answers
use Rattle.dw_in_place.specs.declared.in_place.Sought.{Sought}
use Rattle.dw_in_place.specs.declared.in_place.Sought.TheVariants as sought
use Rattle.dw_in_place.specs.InPlace.{SectionInPlace, alone, found_at, is_after_cie, row_of_fde}

-- ---- the CIE that is known

-- The CIE is one of the section, and its program has no fault and no expressions. The state begins
-- programs of its FDEs with the rules that it leaves.
pub record IsReady (s : SectionInPlace) (state : ProgramState) (cie : declared.EhCie) : Type 0 where
  pub read : IsCieOf s.is_aarch64 s.target s.bytes cie
  pub faultless : cie_fault (eh_cie_of cie).cie ≡ None
  pub plain : expressions_of (eh_cie_of cie).cie.program ≡ []
  pub left : IsLeftBy (eh_cie_of cie).cie state.initial_rules

abbrev pub IsKnown : SectionInPlace → KnownCie → Type 0
IsKnown s known = IfSome known.cie (IsReady s known.state)

-- ---- what is found

-- the FDE, with its CIE, is what is read at the offset `at`
pub record IsRead (s : SectionInPlace) (at : ℕ) (e : EhFde) : Type 0 where
  pub next : ℕ
  pub read : eh_record_at s.is_aarch64 s.bases s.bytes (section_from s.target s.bytes at)
      ≡ Ok (eh_fde e, section_from s.target s.bytes next)
  pub lies : LiesAt s.target at next (eh_fde e)
  pub inside : next ≤ length s.bytes

-- The rules are those of the row that an FDE has at the address `a`. The row begins at the first
-- number of `range`, and ends before the second; its expressions are among `es`. The FDE covers the
-- address, and is an accepted section together with its CIE.
pub record IsInForce (s : SectionInPlace) (e : EhFde) (a : ℕ) (range : ℕ × ℕ) (rules : StoredRules)
    (es : List LocatedExpression) : Type 0 where
  pub covers : Covers e.fde a
  pub checked : IsChecked (alone s.target s.bytes e)
  pub row : row_of_fde s.target s.bytes e a ≡ Some (row_with_expressions es (row_between range.0 range.1 rules))

-- The rules make a row with these expressions, of which the first `in_cie` are the CIE's. Those of
-- the CIE and those of the FDE are each in order of offset.
pub record IsLendable (rules : StoredRules) (es : List LocatedExpression) (in_cie : ℕ) : Type 0 where
  pub cfa : lacks_cfa rules.cfa ≡ false
  pub lent : LendsRules es rules
  pub within : in_cie ≤ length es
  pub cies : Ascends expression_offset (take in_cie es)
  pub fdes : Ascends expression_offset (drop in_cie es)

-- a row is found quickly only if the FDE has no fault and no expressions of its own
pub record IsSoughtRow (e : EhFde) (a : ℕ) (range : ℕ × ℕ) (state : ProgramState) : Type 0 where
  pub covers : Covers e.fde a
  pub after : is_after_cie e ≡ true
  pub faultless : fde_fault e.cie.cie e.fde ≡ None
  pub plain : expressions_of e.fde.program ≡ []
  pub at : IsAtRow e.cie.cie e.fde a range state

abbrev pub IsSought : EhFde → ℕ → Sought → ProgramState → Type 0
IsSought e a (sought.Row start end) state = IsSoughtRow e a (start, end) state
IsSought e a sought.Nothing state = Covers e.fde a → ⊥
IsSought e a sought.Unsure state = Unit {0}

abbrev pub IsKnownAnswer : SectionInPlace → ℕ → ℕ → KnownAnswer → KnownCie → Type 0
IsKnownAnswer s at a (answers.Row fde start end) known = (cie : declared.EhCie) × (known.cie ≡ Some cie)
    × (found_at s at a ≡ Ok (Some (fde_with_cie cie fde)))
    × IsInForce s (fde_with_cie cie fde) a (start, end) known.state.current []
    × IsLendable known.state.current [] 0
IsKnownAnswer s at a answers.Nothing known = found_at s at a ≡ Ok None
IsKnownAnswer s at a answers.Unsure known = Unit {0}

-- ---- what a `FrameInPlace` has found

-- a section in place, and the FDE and the row that were found last, if there are any
pub record Looking : Type 0 where
  pub section : SectionInPlace
  pub found : Option (EhFde × Row)

abbrev pub has_fde : EhFde × Row → EhFde
has_fde found = found.0

abbrev pub has_row : EhFde × Row → Row
has_row found = found.1

-- the state in which the program of the FDE that was found ran
abbrev pub state_at : KnownCie → KnownCie → Place → ProgramState
state_at first second places.First = first.state
state_at first second places.Second = second.state

abbrev pub found_in : KnownCie → KnownCie → List LocatedExpression → Option FoundRow → Option (EhFde × Row)
found_in first second es found = option_map (λ f. (
  eh_fde_of f.fde,
  row_with_expressions es (row_between f.start f.end (state_at first second f.place).current),
)) found
