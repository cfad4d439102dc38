use Rattle.std.proofs.Common.{◌+◌, ◌≤◌, Contains, subst}
use Rattle.dw_frame.specs.Records.{Fde}
use Rattle.dw_frame.specs.Sections.{top_of}
use Rattle.dw_rows.specs.Section.{FrameSection}
use Rattle.dw_rows.proofs.checked_frame.CheckedFrame.fdes.Goals as goal

pub returns-clause-fit : goal.returns-clause-fit
returns-clause-fit c = subst (λ (s : FrameSection). (f : Fde) → Contains s.fdes f → f.initial_location + f.address_range ≤ top_of s.target)
    c.self.view_is c.fdes.ensures.fit
