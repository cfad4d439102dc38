use Rattle.dw_sections.proofs.Sound.{safe}
use Rattle.dw_sections.proofs.laws.expressions_of_accepted_sections_are_safe.Goals as goal

pub returns : goal.returns
returns c = λ s checked x among.
    let known = c.checked_frame_sections.ensures.expressions s checked x among in (
      known.1,
      safe c.each_has_a_depth.ensures c.good_expressions_run_well.ensures c.each_has_an_evaluation.ensures
          c.evaluations_are_determined.ensures x.kind x.target x.bytes known.0,
    )
