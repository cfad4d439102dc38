-- Facts about sections whose CIEs and FDEs are listed.
use Rattle.std.proofs.Common.{◌≡◌, ◌+◌, ◌≤◌, length, Option, None, Some, Contains, refl, subst, sym}
use Rattle.std.specs.Option.{option_or}
use Rattle.dw_bytes.specs.declared.fault.Fault.{Fault}
use Rattle.dw_frame.specs.Records.{Cie, Fde}
use Rattle.dw_frame.specs.Sections.{top_of}
use Rattle.dw_frame.specs.Bounds.{Ascends}
use Rattle.dw_rules.specs.ProgramFault.{cie_fault}
use Rattle.dw_rows.specs.AddressIndex.{cie_offset, fde_offset}
use Rattle.dw_rows.specs.Listing.{IsListed}
use Rattle.dw_rows.specs.Section.{FrameSection, CoversOnce, IsChecked, cie_at, first_fault, parts_fault, pointer_fault, program_fault}
use Rattle.dw_rows.proofs.Faults.{none-each}
use Rattle.dw_rows.proofs.sections.Clashes.{once-covered}
use Rattle.dw_rows.proofs.sections.Parts.{parts-pass, pass-parts, pointed}
use Rattle.dw_rows.proofs.sections.SectionOrder.{placed-cies-ascend, placed-fdes-ascend, placed-fdes-sound}

-- a listed section whose FDEs' programs have no fault is accepted
pub listed-checked : (s : FrameSection) → IsListed s → first_fault (program_fault s.cies) s.fdes ≡ None → IsChecked s
listed-checked s k none = record {
  records = k.records;
  placed = k.placed;
  whole = k.whole;
  faultless = pass-parts s.cies s.fdes (record { pointers = k.pointers; cie_programs = k.cie_programs; fde_programs = none; overlap = k.apart });
}

-- an accepted section is listed
pub checked-listed : (s : FrameSection) → IsChecked s → IsListed s
checked-listed s k =
    let parts = parts-pass s.cies s.fdes k.faultless in
    record {
      records = k.records;
      placed = k.placed;
      whole = k.whole;
      pointers = parts.pointers;
      cie_programs = parts.cie_programs;
      apart = parts.overlap;
    }

pub listed-cies-ascend : (s : FrameSection) → IsListed s → Ascends cie_offset s.cies
listed-cies-ascend s k =
    subst (λ (t : FrameSection). Ascends cie_offset t.cies) (sym k.whole) (placed-cies-ascend s.target 0 (length s.section) k.records k.placed)

pub listed-fdes-ascend : (s : FrameSection) → IsListed s → Ascends fde_offset s.fdes
listed-fdes-ascend s k =
    subst (λ (t : FrameSection). Ascends fde_offset t.fdes) (sym k.whole) (placed-fdes-ascend s.target 0 (length s.section) k.records k.placed)

-- an FDE has a CIE
pub listed-pointed : (s : FrameSection) → IsListed s → (f : Fde) → Contains s.fdes f → (c : Cie) × (cie_at s.cies f.cie_pointer ≡ Some c)
listed-pointed s k f among = pointed s.cies f (none-each (pointer_fault s.cies) s.fdes k.pointers f among)

pub listed-cies-good : (s : FrameSection) → IsListed s → (c : Cie) → Contains s.cies c → cie_fault c ≡ None
listed-cies-good s k = none-each cie_fault s.cies k.cie_programs

pub listed-once : (s : FrameSection) → IsListed s → CoversOnce s.fdes
listed-once s k = once-covered s.fdes (listed-fdes-ascend s k) k.apart

-- no FDE ends above the target's highest address
pub listed-fits : (s : FrameSection) → IsListed s → (f : Fde) → Contains s.fdes f → f.initial_location + f.address_range ≤ top_of s.target
listed-fits s k f among = (placed-fdes-sound s.target 0 (length s.section) k.records k.placed f
    (subst (λ (t : FrameSection). Contains t.fdes f) k.whole among)).range

or-none : (a : Option Fault) → option_or a None ≡ a
or-none None = refl
or-none (Some fault) = refl

-- the first fault of a listed section is the first one of its FDEs' programs
pub listed-fault : (s : FrameSection) → IsListed s → parts_fault s.cies s.fdes ≡ first_fault (program_fault s.cies) s.fdes
unfolding parts_fault
listed-fault s k = rw (k.pointers, k.cie_programs, k.apart) (or-none (first_fault (program_fault s.cies) s.fdes))
