-- A whole frame section, `.debug_frame` or `.eh_frame`: when it is accepted, and its first fault
-- (DWARF 5, section 6.4.1).
use Rattle.std.specs.Prelude.{◌≡◌, ℕ, ◌+◌, ◌<◌, ◌≤◌, ◌==◌, ◌&&◌, nat_lt, nat_le, Bool, if◌then◌else◌, Option, Some, None, is_some, List}
use Rattle.std.specs.Prelude.{[], ◌∷◌, Contains, find, length, map, option_and_then}
use Rattle.std.specs.Option.{option_or}
use Rattle.std.specs.List.{flat_map, list_any}
use Rattle.dw_bytes.specs.declared.target.Target.{Target}
use Rattle.dw_bytes.specs.declared.fault.Fault.{Fault}
use Rattle.dw_bytes.specs.declared.fault.FaultKind.TheVariants.{NoSuchCie, Overlap}
use Rattle.dw_bytes.specs.Answers.{values_in, fault_in}
use Rattle.dw_frame.specs.Records.{Cie, Fde, Record, cies_among, fdes_among}
use Rattle.dw_frame.specs.Sections.{records_of}
use Rattle.dw_frame.specs.Bounds.{ArePlaced}
use Rattle.dw_rules.specs.Rules.{PlacedRow, Row}
use Rattle.dw_stack.specs.Located.{LocatedExpression}
use Rattle.dw_rules.specs.Expressions.{frame_expressions}
use Rattle.dw_rules.specs.ProgramFault.{cie_fault, fde_fault}
use Rattle.dw_rules.specs.RowsWithExpressions.{row_with_expressions}
use Rattle.dw_rows.specs.UnwindRows.{rows_of, has_address}

-- A section with its target, and what is read before its first fault: CIEs and FDEs in separate
-- lists, each in the order of the section, and the expressions of their programs.
pub record FrameSection : Type 0 where
  pub target : Target
  pub section : List ℕ
  pub cies : List Cie
  pub fdes : List Fde
  pub expressions : List LocatedExpression

-- a section of which these CIEs and FDEs are read
abbrev pub frame_by : Target → List ℕ → List Cie → List Fde → FrameSection
frame_by target section cies fdes = record {
  target = target;
  section = section;
  cies = cies;
  fdes = fdes;
  expressions = frame_expressions cies fdes;
}

-- a section of which these records are read
abbrev pub frame_with : Target → List ℕ → List Record → FrameSection
frame_with target section records = frame_by target section (cies_among records) (fdes_among records)

abbrev pub frame_of : Target → List ℕ → FrameSection
frame_of target section = frame_with target section (values_in (records_of target section))

-- ---- the addresses that FDEs cover

abbrev pub Covers : Fde → ℕ → Type 0
Covers f a = (f.initial_location ≤ a) × (a < f.initial_location + f.address_range)

abbrev pub SharesAddress : Fde → Fde → Type 0
SharesAddress f g = (a : ℕ) × Covers f a × Covers g a

-- no address is covered by two FDEs
abbrev pub CoversOnce : List Fde → Type 0
CoversOnce fdes = (a : ℕ) (f g : Fde) → Contains fdes f → Contains fdes g → Covers f a → Covers g a → f ≡ g

-- the only FDE that covers the address a, or none if no FDE covers it
abbrev pub IsCoverOf : List Fde → ℕ → Option Fde → Type 0
IsCoverOf fdes a None = (f : Fde) → Contains fdes f → ¬ Covers f a
IsCoverOf fdes a (Some f) = Contains fdes f × Covers f a × ((g : Fde) → Contains fdes g → Covers g a → g ≡ f)

-- ---- the first fault that is found once all CIEs and FDEs have been read

-- the fault of the first element that has one
abbrev pub first_fault : {X : Type 0} → (X → Option Fault) → List X → Option Fault
first_fault test [] = None
first_fault test (x ∷ xs) = option_or (test x) (first_fault test xs)

-- the CIE that begins at the offset `at`, or none if no CIE begins there
abbrev pub cie_at : List Cie → ℕ → Option Cie
cie_at cies at = find (λ c. c.offset == at) cies

-- a fault of the FDE if its CIE_pointer isn't the offset of a CIE
abbrev pub pointer_fault : List Cie → Fde → Option Fault
pointer_fault cies f = if is_some (cie_at cies f.cie_pointer) then None else Some (record { kind = NoSuchCie; at = f.cie_pointer_offset })

abbrev pub fault_by_cie : Option Cie → Fde → Option Fault
fault_by_cie None f = None
fault_by_cie (Some c) f = fde_fault c f

-- The first fault of an FDE's program, which begins with the rules that its CIE's program leaves.
-- None if the CIE_pointer isn't the offset of a CIE.
abbrev pub program_fault : List Cie → Fde → Option Fault
program_fault cies f = fault_by_cie (cie_at cies f.cie_pointer) f

-- whether two FDEs share an address: each begins before the other ends, and neither is empty
abbrev pub shares : Fde → Fde → Bool
shares f g = nat_lt 0 f.address_range && nat_lt 0 g.address_range
    && nat_lt f.initial_location (g.initial_location + g.address_range)
    && nat_lt g.initial_location (f.initial_location + f.address_range)

-- a fault of the FDE g if an FDE before it in the section shares an address with it
abbrev pub overlap_fault : List Fde → Fde → Option Fault
overlap_fault fdes g = if list_any (λ f. nat_lt f.offset g.offset && shares f g) fdes then Some (record { kind = Overlap; at = g.offset })
    else None

-- the first fault of the CIE_pointers, or else of the CIEs' programs, or else of the FDEs' programs
abbrev pub programs_fault : List Cie → List Fde → Option Fault
programs_fault cies fdes = option_or (first_fault (pointer_fault cies) fdes)
    (option_or (first_fault cie_fault cies) (first_fault (program_fault cies) fdes))

-- the first fault of the CIE_pointers and the programs, or else the first overlap of FDEs
unfoldable pub parts_fault : List Cie → List Fde → Option Fault
parts_fault cies fdes = option_or (programs_fault cies fdes) (first_fault (overlap_fault fdes) fdes)

-- the first fault of a section: the first fault in reading its CIEs and FDEs, or else the first
-- fault of their pointers, programs and addresses
unfoldable pub section_fault : Target → List ℕ → Option Fault
section_fault target section = option_or (fault_in (records_of target section))
    (parts_fault (frame_of target section).cies (frame_of target section).fdes)

-- These are the CIEs and the FDEs of records that lie in a section of this size.
pub record AreReadIn (target : Target) (size : ℕ) (cies : List Cie) (fdes : List Fde) : Type 0 where
  pub records : List Record
  pub placed : ArePlaced target 0 size records
  pub cies_are : cies ≡ cies_among records
  pub fdes_are : fdes ≡ fdes_among records

-- A section that is accepted: its CIEs, FDEs and expressions are those of records that lie in it,
-- one after another, and they have no fault.
pub record IsChecked (s : FrameSection) : Type 0 where
  pub records : List Record
  pub placed : ArePlaced s.target 0 (length s.section) records
  pub whole : s ≡ frame_with s.target s.section records
  pub faultless : parts_fault s.cies s.fdes ≡ None

-- ---- rows

-- the CIE that an FDE's CIE_pointer refers to, if there is one
abbrev pub cie_in : FrameSection → Fde → Option Cie
cie_in s f = cie_at s.cies f.cie_pointer

abbrev pub rows_by_cie : Option Cie → Fde → List PlacedRow
rows_by_cie None f = []
rows_by_cie (Some c) f = rows_of c f

-- the rows of an FDE whose CIE is among `cies`, with the offsets of expressions
abbrev pub placed_rows : List Cie → Fde → List PlacedRow
placed_rows cies f = rows_by_cie (cie_at cies f.cie_pointer) f

-- the rows of an FDE, with the expressions in place of their offsets
abbrev pub rows_in : FrameSection → Fde → List Row
rows_in s f = map (row_with_expressions s.expressions) (placed_rows s.cies f)

-- the number of rows of all FDEs, added up
abbrev pub row_count : FrameSection → ℕ
row_count s = length (flat_map (rows_in s) s.fdes)

-- ---- the row of an address

abbrev pub covers : ℕ → Fde → Bool
covers a f = nat_le f.initial_location a && nat_lt a (f.initial_location + f.address_range)

-- The row of the address a, which is a row of the FDE that covers a. None if no FDE covers a.
abbrev pub row_of : FrameSection → ℕ → Option Row
row_of s a = option_and_then (λ f. find (has_address a) (rows_in s f)) (find (covers a) s.fdes)

-- ---- the return address

-- r is the return address register named by the CIE of the FDE that covers the address a
abbrev pub IsReturnRegister : FrameSection → ℕ → ℕ → Type 0
IsReturnRegister s a r = (fde : Fde) × (cie : Cie) × IsCoverOf s.fdes a (Some fde) × (cie_in s fde ≡ Some cie)
    × (cie.return_address_register ≡ r)
