use Rattle.std.proofs.Common.{◌≡◌, length, ap, ◌∙◌, arith}
use Rattle.dw_rows.specs.Section.{FrameSection}
use Rattle.dw_loclists.specs.Reading.{located_in}
use Rattle.dw_check.proofs.Reported.{of_mapped}
use Rattle.dw_check.proofs.reports.expression_count.Goals as goal

pub returns : goal.returns
returns c =
    let checked = c.args.checked.now in
    let in_frame : length c.expressions-of_frame.result.now ≡ length checked.frame.expressions =
    of_mapped _ _ _ (c.expressions-of_frame.ensures ∙ ap (λ (f : FrameSection). f.expressions) c.frame.ensures) in
    let in_lists : length c.expressions.result ≡ length (located_in checked.lists) =
    ap length (c.expressions.ensures.expressions ∙ ap located_in c.lists.ensures.lists) in
    omega (arith, in_frame, in_lists, c.len-of_lists.ensures.value)
