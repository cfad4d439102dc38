-- Each FDE of a checked section has a CIE, and neither's program has a fault.
use Rattle.std.proofs.Common.{◌≡◌, Some, None, Contains}
use Rattle.dw_frame.specs.Records.{Cie, Fde}
use Rattle.dw_rules.specs.ProgramFault.{cie_fault, fde_fault}
use Rattle.dw_rows.specs.Section.{FrameSection, IsChecked, cie_in}
use Rattle.dw_rows.proofs.sections.CheckedSections.{checked-parts}
use Rattle.dw_rows.proofs.sections.Parts.{pointed-in, good-past}

pub fde-good : (s : FrameSection) → IsChecked s → (f : Fde) → Contains s.fdes f
    → (c : Cie) × (cie_in s f ≡ Some c) × (cie_fault c ≡ None) × (fde_fault c f ≡ None)
fde-good s checked f among =
    let parts = checked-parts s checked in
    let pointed = pointed-in s.cies s.fdes parts f among in
    let good = good-past s.cies s.fdes parts f among pointed.0 pointed.1 in
    (pointed.0, pointed.1, good.0, good.1)
