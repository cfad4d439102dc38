-- The records of a section have no exact copies of FDEs, if they have no fault with all of them.
use Rattle.std.proofs.Common.{◌≡◌, ℕ, ◌↔◌, Bool, List, None, ap, arith, length, subst, sym}
use Rattle.dw_bytes.specs.declared.target.Target.{Target}
use Rattle.dw_frame.specs.Bounds.{ArePlaced}
use Rattle.dw_frame.specs.Records.{Record, cies_among, fdes_among}
use Rattle.dw_bytes.specs.Answers.{values_in}
use Rattle.dw_rows.specs.Section.{CoversOnce, FrameSection, IsChecked, frame_with, parts_fault}
use Rattle.dw_eh_frame.specs.Records.{all_in_dwarf, eh_reading_fault, eh_records_of}
use Rattle.dw_eh_frame.specs.declared.pointer.Bases.{Bases}
use Rattle.dw_eh_rows.specs.Section.{eh_frame_of, eh_frame_with_copies, eh_section_fault}
use Rattle.dw_rows.specs.WellFormed.{AreGood}
use Rattle.dw_eh_frame.specs.Copies.{AreDistinct, distinct}
use Rattle.dw_eh_rows.proofs.Among.{record-fde}

-- the laws of the crates below that are used here
pub record CopyLaws : Type 0 where
  pub good : (target : Target) (at end : ℕ) (records : List Record) → ArePlaced target at end records
      → (parts_fault (cies_among records) (fdes_among records) ≡ None) ↔ AreGood records
  pub kept : (target : Target) (at end : ℕ) (records : List Record) → ArePlaced target at end records → AreDistinct records
      → distinct records ≡ records

-- two FDEs that cover the same addresses are one
once-distinct : (records : List Record) → CoversOnce (fdes_among records) → AreDistinct records
once-distinct records once g f g_in f_in some same_range same_start =
    once f.initial_location g f (record-fde records g g_in) (record-fde records f f_in)
    (omega (arith, same_start), omega (arith, same_start, same_range, some)) (omega arith, omega (arith, some))

pub no-copies : CopyLaws → (target : Target) (at end : ℕ) (records : List Record) → ArePlaced target at end records
    → parts_fault (cies_among records) (fdes_among records) ≡ None → distinct records ≡ records
no-copies laws target at end records placed none =
    laws.kept target at end records placed (once-distinct records ((laws.good target at end records placed).0 none).once)

-- what is known of all records of a section, if they are those of a checked section
pub record IsWhole (is_aarch64 : Bool) (bases : Bases) (target : Target) (section : List ℕ) (s : FrameSection) : Type 0 where
  pub faultless : eh_section_fault is_aarch64 bases target section ≡ None
  pub frame : s ≡ eh_frame_of is_aarch64 bases target section

-- a section that is read without a fault, and has none with all its records, has no copies
pub whole : CopyLaws → (is_aarch64 : Bool) (bases : Bases) (target : Target) (section : List ℕ)
    → ArePlaced target 0 (length section) (all_in_dwarf (values_in (eh_records_of is_aarch64 bases target section)))
    → eh_reading_fault is_aarch64 bases target section ≡ None
    → IsChecked (eh_frame_with_copies is_aarch64 bases target section)
    → IsWhole is_aarch64 bases target section (eh_frame_with_copies is_aarch64 bases target section)
unfolding eh_section_fault
whole laws is_aarch64 bases target section placed read checked =
    let records = all_in_dwarf (values_in (eh_records_of is_aarch64 bases target section)) in
    let same : distinct records ≡ records = no-copies laws target 0 (length section) records placed checked.faultless in
    record {
      faultless = rw read (subst (λ (l : List Record). parts_fault (cies_among l) (fdes_among l) ≡ None) (sym same) checked.faultless);
      frame = ap (frame_with target section) (sym same);
    }
