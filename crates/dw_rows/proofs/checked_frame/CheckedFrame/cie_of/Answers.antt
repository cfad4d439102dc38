use Rattle.std.proofs.Common.{Contains, subst, sym}
use Rattle.dw_frame.specs.Views.{cie_of, fde_of}
use Rattle.dw_rows.specs.Section.{FrameSection}
use Rattle.dw_rows.proofs.sections.CheckedSections.{checked-parts}
use Rattle.dw_rows.proofs.sections.Parts.{good-past}
use Rattle.dw_rows.proofs.checked_frame.CheckedFrame.cie_of.Goals as goal

pub returns-clause-fde_program : goal.returns-clause-fde_program
returns-clause-fde_program c =
    let s = c.self.inside.listed in
    (good-past s.cies s.fdes (checked-parts s c.self.invariant.checked) (fde_of c.args.fde.now)
    (subst (λ (t : FrameSection). Contains t.fdes (fde_of c.args.fde.now)) (sym c.self.view_is) c.requires) (cie_of c.cie_of.result) c.cie_of.ensures.cie).1
