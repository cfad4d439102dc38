-- The parts of a frame section's check, after its CIEs and FDEs were read: the CIE_pointers, the
-- programs of the CIEs and of the FDEs, and overlap.
use Rattle.std.proofs.Common.{◌≡◌, List, Option, Some, None, Contains, refl, sym, ap, ◌∙◌, if◌then◌else◌}
use Rattle.std.specs.Prelude.{is_some}
use Rattle.std.specs.Option.{option_or}
use Rattle.dw_bytes.specs.declared.fault.Fault.{Fault}
use Rattle.dw_frame.specs.Records.{Cie, Fde}
use Rattle.dw_rules.specs.ProgramFault.{cie_fault, fde_fault}
use Rattle.dw_rows.specs.Section.{first_fault, cie_at, pointer_fault, program_fault, fault_by_cie, overlap_fault, programs_fault}
use Rattle.dw_rows.specs.Section.{parts_fault, CoversOnce}
use Rattle.dw_rows.specs.AddressIndex.{fde_offset}
use Rattle.dw_frame.specs.Bounds.{Ascends}
use Rattle.dw_rows.proofs.Faults.{option_or-none, none-each, at-found}
use Rattle.dw_rows.proofs.sections.Clashes.{once-covered}

-- no part of the check found a fault
pub record PartsPass (cies : List Cie) (fdes : List Fde) : Type 0 where
  pub pointers : first_fault (pointer_fault cies) fdes ≡ None
  pub cie_programs : first_fault cie_fault cies ≡ None
  pub fde_programs : first_fault (program_fault cies) fdes ≡ None
  pub overlap : first_fault (overlap_fault fdes) fdes ≡ None

pub parts-pass : (cies : List Cie) (fdes : List Fde) → parts_fault cies fdes ≡ None → PartsPass cies fdes
unfolding parts_fault
parts-pass cies fdes none =
    let last = option_or-none (programs_fault cies fdes) (first_fault (overlap_fault fdes) fdes) none in
    let pointers = option_or-none (first_fault (pointer_fault cies) fdes)
    (option_or (first_fault cie_fault cies) (first_fault (program_fault cies) fdes)) last.0 in
    let programs = option_or-none (first_fault cie_fault cies) (first_fault (program_fault cies) fdes) pointers.1 in
    record { pointers = pointers.0; cie_programs = programs.0; fde_programs = programs.1; overlap = last.1 }

pub pass-parts : (cies : List Cie) (fdes : List Fde) → PartsPass cies fdes → parts_fault cies fdes ≡ None
unfolding parts_fault
pass-parts cies fdes h = rw (h.pointers, h.cie_programs, h.fde_programs, h.overlap) refl

found-by : (o : Option Cie) (fault : Fault) → (if is_some o then None else Some fault) ≡ None → (c : Cie) × (o ≡ Some c)
found-by (Some c) fault e = (c, refl)
found-by None fault e = let clash : Some fault ≡ None = e in cc

-- an FDE whose CIE_pointer has no fault has a CIE
pub pointed : (cies : List Cie) (f : Fde) → pointer_fault cies f ≡ None → (c : Cie) × (cie_at cies f.cie_pointer ≡ Some c)
pointed cies f none = found-by (cie_at cies f.cie_pointer) _ none

pub pointed-in : (cies : List Cie) (fdes : List Fde) → parts_fault cies fdes ≡ None → (f : Fde) → Contains fdes f
    → (c : Cie) × (cie_at cies f.cie_pointer ≡ Some c)
pointed-in cies fdes none f among = pointed cies f (none-each (pointer_fault cies) fdes (parts-pass cies fdes none).pointers f among)

pub covers-once-in : (cies : List Cie) (fdes : List Fde) → Ascends fde_offset fdes → parts_fault cies fdes ≡ None → CoversOnce fdes
covers-once-in cies fdes up none = once-covered fdes up (parts-pass cies fdes none).overlap

-- in a section without a fault the programs of an FDE and of its CIE have none
pub good-past : (cies : List Cie) (fdes : List Fde) → parts_fault cies fdes ≡ None → (f : Fde) → Contains fdes f → (c : Cie)
    → cie_at cies f.cie_pointer ≡ Some c → (cie_fault c ≡ None) × (fde_fault c f ≡ None)
good-past cies fdes none f among c is =
    let parts = parts-pass cies fdes none in
    let found = at-found cies f.cie_pointer c is in
    let past = none-each (program_fault cies) fdes parts.fde_programs f among in
    (none-each cie_fault cies parts.cie_programs c found.0, ap (λ o. fault_by_cie o f) (sym is) ∙ past)
