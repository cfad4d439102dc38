-- Facts about frame sections that passed the check.
use Rattle.std.proofs.Common.{◌≡◌, ℕ, ◌+◌, ◌≤◌, List, [], ◌∷◌, length, None, Contains, refl, sym, subst, ap, ◌∙◌, arith, length-append}
use Rattle.std.proofs.lemmas.List.{length-map}
use Rattle.std.specs.List.{flat_map}
use Rattle.dw_bytes.specs.declared.target.Target.{Target}
use Rattle.dw_bytes.specs.Answers.{values_in, fault_in}
use Rattle.dw_frame.specs.Records.{Cie, Fde, Record, cies_among, fdes_among}
use Rattle.dw_frame.specs.Sections.{records_of, top_of}
use Rattle.dw_frame.specs.Bounds.{ArePlaced, Ascends, IsSoundCie, IsSoundFde}
use Rattle.dw_stack.specs.Located.{LocatedExpression}
use Rattle.dw_rules.specs.Expressions.{cie_expressions, frame_expressions}
use Rattle.dw_rules.specs.ProgramFault.{cie_fault}
use Rattle.dw_rows.specs.Section.{FrameSection, CoversOnce, IsChecked, section_fault, frame_of, frame_by, frame_with, parts_fault, placed_rows, rows_in}
use Rattle.dw_rows.specs.Section.{AreReadIn}
use Rattle.dw_rules.specs.RowsWithExpressions.{row_with_expressions}
use Rattle.dw_rows.specs.AddressIndex.{cie_offset, fde_offset}
use Rattle.dw_rows.specs.Listing.{IsKept}
use Rattle.dw_rows.proofs.Faults.{option_or-none}
use Rattle.dw_rows.proofs.sections.ListedSections.{checked-listed, listed-cies-ascend, listed-cies-good, listed-fdes-ascend, listed-fits, listed-once}
use Rattle.dw_rows.proofs.sections.SectionOrder.{placed-cies-ascend, placed-fdes-ascend, placed-cies-sound, placed-fdes-sound, read-placed}

-- records that lie in a section, and have no fault, make an accepted section
pub records-accepted : (target : Target) (section : List ℕ) (records : List Record) → ArePlaced target 0 (length section) records
    → parts_fault (cies_among records) (fdes_among records) ≡ None → IsChecked (frame_with target section records)
records-accepted target section records placed none = record { records = records; placed = placed; whole = refl; faultless = none }

-- a section that is read without a fault, and has none in its CIEs and FDEs, is accepted
pub accepted : (target : Target) (section : List ℕ) → section_fault target section ≡ None → IsChecked (frame_of target section)
unfolding section_fault
accepted target section none =
    let split = option_or-none (fault_in (records_of target section))
    (parts_fault (frame_of target section).cies (frame_of target section).fdes) none in
    records-accepted target section (values_in (records_of target section)) (read-placed target section split.0) split.1

-- checking the CIEs and FDEs of a section that passed the check found no fault in them
pub checked-parts : (s : FrameSection) → IsChecked s → parts_fault s.cies s.fdes ≡ None
checked-parts s k = k.faultless

pub checked-cies-ascend : (s : FrameSection) → IsChecked s → Ascends cie_offset s.cies
checked-cies-ascend s k = listed-cies-ascend s (checked-listed s k)

pub checked-fdes-ascend : (s : FrameSection) → IsChecked s → Ascends fde_offset s.fdes
checked-fdes-ascend s k = listed-fdes-ascend s (checked-listed s k)

pub checked-cies-good : (s : FrameSection) → IsChecked s → (c : Cie) → Contains s.cies c → cie_fault c ≡ None
checked-cies-good s k = listed-cies-good s (checked-listed s k)

pub checked-once : (s : FrameSection) → IsChecked s → CoversOnce s.fdes
checked-once s k = listed-once s (checked-listed s k)

-- the programs of a checked section have the section's target and their bytes are in the section,
-- and no FDE ends above the target's highest address
pub checked-cies-sound : (s : FrameSection) → IsChecked s → (c : Cie) → Contains s.cies c → IsSoundCie s.target (length s.section) c
checked-cies-sound s k c among = placed-cies-sound s.target 0 (length s.section) k.records k.placed c
    (subst (λ (t : FrameSection). Contains t.cies c) k.whole among)

pub checked-fdes-sound : (s : FrameSection) → IsChecked s → (f : Fde) → Contains s.fdes f → IsSoundFde s.target (length s.section) f
checked-fdes-sound s k f among = placed-fdes-sound s.target 0 (length s.section) k.records k.placed f
    (subst (λ (t : FrameSection). Contains t.fdes f) k.whole among)

pub checked-fits : (s : FrameSection) → IsChecked s → (f : Fde) → Contains s.fdes f → f.initial_location + f.address_range ≤ top_of s.target
checked-fits s k = listed-fits s (checked-listed s k)

-- every expression listed for a checked section is in one of the section's programs
pub in-programs : (s : FrameSection) → IsChecked s → (e : LocatedExpression) → Contains s.expressions e
    → Contains (frame_expressions s.cies s.fdes) e
in-programs s k e among =
    let t = frame_with s.target s.section k.records in
    let there : Contains (frame_expressions t.cies t.fdes) e = subst (λ (u : FrameSection). Contains u.expressions e) k.whole among in
    subst (λ (u : FrameSection). Contains (frame_expressions u.cies u.fdes) e) (sym k.whole) there

-- FDEs have equally many rows whether a row holds expressions (`rows_in`) or their offsets
-- (`placed_rows`)
count-given : (s : FrameSection) (fdes : List Fde) → length (flat_map (placed_rows s.cies) fdes) ≡ length (flat_map (rows_in s) fdes)
count-given s [] = refl
count-given s (f ∷ fdes) =
    let rows = placed_rows s.cies f in
    let placed = length-append rows (flat_map (placed_rows s.cies) fdes) in
    let given = length-append (rows_in s f) (flat_map (rows_in s) fdes) in
    let same = length-map rows (row_with_expressions s.expressions) in
    let later = count-given s fdes in
    omega (arith, placed, given, same, later)

-- CIEs and FDEs that were read in a section are in order of offset
pub read-cies-ascend : (target : Target) (size : ℕ) (cies : List Cie) (fdes : List Fde) → AreReadIn target size cies fdes → Ascends cie_offset cies
read-cies-ascend target size cies fdes read =
    subst (Ascends cie_offset) (sym read.cies_are) (placed-cies-ascend target 0 size read.records read.placed)

pub read-fdes-ascend : (target : Target) (size : ℕ) (cies : List Cie) (fdes : List Fde) → AreReadIn target size cies fdes → Ascends fde_offset fdes
read-fdes-ascend target size cies fdes read =
    subst (Ascends fde_offset) (sym read.fdes_are) (placed-fdes-ascend target 0 size read.records read.placed)

-- CIEs and FDEs that were read in a section, and have no fault, make an accepted section
pub read-checked : (target : Target) (section : List ℕ) (cies : List Cie) (fdes : List Fde) → AreReadIn target (length section) cies fdes
    → parts_fault cies fdes ≡ None → IsChecked (frame_by target section cies fdes)
read-checked target section cies fdes read none = record {
  records = read.records;
  placed = read.placed;
  whole = λ i. frame_by target section (read.cies_are i) (read.fdes_are i);
  faultless = none;
}

-- what the code stores about an accepted section meets `IsKept`
pub kept : (s : FrameSection) → IsChecked s → (expressions : List LocatedExpression) → expressions ≡ frame_expressions s.cies s.fdes
    → (count : ℕ) → count ≡ length (cie_expressions s.cies) → (rows : ℕ) → rows ≡ length (flat_map (placed_rows s.cies) s.fdes)
    → IsKept s expressions count rows
kept s checked expressions all count in_cies rows counted = record {
  checked = checked;
  all = all ∙ ap (λ (t : FrameSection). frame_expressions t.cies t.fdes) checked.whole
      ∙ sym (ap (λ (t : FrameSection). t.expressions) checked.whole);
  in_cies = in_cies;
  row_count = counted ∙ count-given s s.fdes;
}
