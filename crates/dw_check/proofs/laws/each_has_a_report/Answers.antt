use Rattle.dw_check.proofs.EachReport.{report_some}
use Rattle.dw_check.proofs.laws.each_has_a_report.Goals as goal

pub returns : goal.returns
returns c = report_some c.each_has_a_depth.ensures c.checked_list_sections.ensures.good
    (λ s x checked among. (c.checked_frame_sections.ensures.expressions s checked x among).0)
