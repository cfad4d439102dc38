use Rattle.std.proofs.Common.{sym, ap, ◌∙◌}
use Rattle.dw_unwind.specs.declared.unwinding.Answer as declared
use Rattle.dw_unwind.specs.CallerViews.{answer_in}
use Rattle.dw_unwind.specs.Walks.{content_of}
use Rattle.dw_unwind.proofs.Ascending.{content_at_place, no_content}
use Rattle.dw_unwind.proofs.frame_registers.content_at.Goals as goal

pub returns-in-Value : goal.returns-in-Value
returns-in-Value c =
    sym (content_at_place 0 c.args.found.now c.requires.0 _ _ c.requires.1 c.in_ok-content.ensures.1
    ∙ ap (λ (a : declared.Answer). content_of (answer_in a)) c.in-Value.is)

pub returns-in_default : goal.returns-in_default
returns-in_default c =
    sym (content_at_place 0 c.args.found.now c.requires.0 _ _ c.requires.1 c.in_ok-content.ensures.1 ∙ no_content _ c.in_default.not-Value)
