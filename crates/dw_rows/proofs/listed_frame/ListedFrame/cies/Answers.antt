use Rattle.std.proofs.Common.{◌≡◌, None, Contains, subst}
use Rattle.dw_frame.specs.Records.{Cie}
use Rattle.dw_rules.specs.ProgramFault.{cie_fault}
use Rattle.dw_rows.specs.Section.{FrameSection}
use Rattle.dw_rows.proofs.sections.ListedSections.{listed-cies-good}
use Rattle.dw_rows.proofs.listed_frame.ListedFrame.cies.Goals as goal

pub returns-clause-good : goal.returns-clause-good
returns-clause-good c =
    subst (λ (s : FrameSection). (cie : Cie) → Contains s.cies cie → cie_fault cie ≡ None) c.self.view_is
    (listed-cies-good _ c.self.invariant.listed)
