use Rattle.std.specs.List.{flat_map}
use Rattle.dw_check.specs.ReportViews.{line_of}
use Rattle.dw_sections.specs.declared.section.Section.TheVariants as sections
use Rattle.dw_check.proofs.Growth.{front_wider}
use Rattle.dw_check.proofs.Writing.{writes_front, writes_then}
use Rattle.dw_check.proofs.reports.write_all_expressions.Goals as goal

pub returns-in_err-write_frame_expressions-clause-written : goal.returns-in_err-write_frame_expressions-clause-written
returns-in_err-write_frame_expressions-clause-written g c = λ text are.
    writes_front _ _ _ _ c.from_residual.ensures.0
    (front_wider _ _ (flat_map (line_of sections.Frame) c.args.of_frame.now) text c.in_err-write_frame_expressions.ensures.written)

pub returns-clause-written : goal.returns-clause-written
returns-clause-written g c = λ text are.
    writes_then _ _ _ _ _ _ c.in_ok-write_frame_expressions.ensures.written (c.write_list_expressions.ensures.written text are)
