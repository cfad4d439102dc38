use Rattle.std.proofs.Common.{◌≡◌, ℕ, List, [], ◌++◌, refl, sym, ap, subst, ◌∙◌, rules}
use Rattle.std.specs.Prelude.{Err}
use Rattle.std.specs.List.{flat_map}
use Rattle.std.specs.String.{string_bytes}
use Rattle.dw_stack.specs.Located.{LocatedExpression}
use Rattle.dw_stack.proofs.Existing.{each_has_a_depth}
use Rattle.dw_loclists.specs.Reading.{ListSection, IsChecked, located_in}
use Rattle.dw_loclists.proofs.Standing.{good-expressions}
use Rattle.dw_check.specs.Report.{AreLines, summary_text}
use Rattle.dw_check.specs.ReportViews.{line_of}
use Rattle.dw_sections.specs.declared.section.Section.TheVariants as sections
use Rattle.dw_rows.specs.Section.{FrameSection}
use Rattle.dw_check.proofs.Growth.{appends_nothing, front_wider}
use Rattle.dw_check.proofs.Writing.{writes_front, writes_then, writes_whole}
use Rattle.dw_check.proofs.EachReport.{list_lines_some}
use Rattle.dw_check.proofs.Reported.{reported}
use Rattle.dw_check.proofs.reports.write_report.Goals as goal

-- there are lines for the expressions of the location lists
list_lines : (lists : ListSection) → IsChecked lists → (t : List ℕ) × AreLines sections.Lists (located_in lists) t
list_lines lists checked = list_lines_some each_has_a_depth good-expressions lists checked

pub returns-in_err-push_summary-clause-written : goal.returns-in_err-push_summary-clause-written
returns-in_err-push_summary-clause-written g c =
    let checked = c.args.checked.now in
    let xs = c.expressions-of_frame.result.now in
    let found = list_lines checked.lists (subst IsChecked c.lists.ensures.lists c.expressions-of_lists.ensures.checked) in
    let lines = flat_map (line_of sections.Frame) xs ++ found.0 in
    let text = summary_text checked.frame checked.lists ++ lines in
    let is = reported checked.frame checked.lists xs found.0
    (c.expressions-of_frame.ensures ∙ ap (λ (f : FrameSection). f.expressions) c.frame.ensures) found.1 in
    (text, is, writes_front _ _ _ _ c.from_residual.ensures.0 ([], text, refl, appends_nothing _))

pub returns-in_err-send_line-clause-written : goal.returns-in_err-send_line-clause-written
returns-in_err-send_line-clause-written g c =
    let checked = c.args.checked.now in
    let xs = c.expressions-of_frame.result.now in
    let found = list_lines checked.lists (subst IsChecked c.lists.ensures.lists c.expressions-of_lists.ensures.checked) in
    let lines = flat_map (line_of sections.Frame) xs ++ found.0 in
    let text = summary_text checked.frame checked.lists ++ lines in
    let line : string_bytes c.push_summary.new.line ≡ summary_text checked.frame checked.lists = search rules in
    let is = reported checked.frame checked.lists xs found.0
    (c.expressions-of_frame.ensures ∙ ap (λ (f : FrameSection). f.expressions) c.frame.ensures) found.1 in (
      text,
      is,
      writes_front _ _ _ _ c.from_residual-in_err-send_line.ensures.0
          (front_wider _ _ (summary_text checked.frame checked.lists) lines
          (writes_whole _ _ (Err c.in_err-send_line.field-0.0) _ (rw line at c.in_err-send_line.ensures.written))),
    )

pub returns-clause-written : goal.returns-clause-written
returns-clause-written g c =
    let checked = c.args.checked.now in
    let xs = c.expressions-of_frame.result.now in
    let found = list_lines checked.lists (subst IsChecked c.lists.ensures.lists c.expressions-of_lists.ensures.checked) in
    let lines = flat_map (line_of sections.Frame) xs ++ found.0 in
    let text = summary_text checked.frame checked.lists ++ lines in
    let line : string_bytes c.push_summary.new.line ≡ summary_text checked.frame checked.lists = search rules in
    let is = reported checked.frame checked.lists xs found.0
    (c.expressions-of_frame.ensures ∙ ap (λ (f : FrameSection). f.expressions) c.frame.ensures) found.1 in
    let all = c.expressions-of_lists.ensures.expressions ∙ ap located_in c.lists.ensures.lists in
    let of_lists = subst (λ (located : List LocatedExpression). AreLines sections.Lists located found.0) (sym all) found.1 in (
      text,
      is,
      writes_then _ _ _ _ _ _ (rw line at c.in_ok-send_line.ensures.written)
          (c.write_all_expressions.ensures.written found.0 of_lists),
    )
