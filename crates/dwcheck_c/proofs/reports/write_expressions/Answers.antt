use Rattle.std.proofs.Common.{◌∙◌, List, ap, subst, sym}
use Rattle.std.proofs.lemmas.List.{length-map}
use Rattle.dw_loclists.specs.Reading.{ListSection, located_in}
use Rattle.dw_rows.specs.Section.{FrameSection}
use Rattle.dw_stack.specs.Located.{LocatedExpression, all_located, located_of}
use Rattle.dw_c_types.specs.declared.fault.TheConstants.{IN_FRAME, IN_LISTS}
use Rattle.dwcheck_c.specs.Reports.{AreShown}
use Rattle.dwcheck_c.proofs.Shown.{shown-length}
use Rattle.dwcheck_c.proofs.reports.write_expressions.Goals as goal

pub returns : goal.returns
returns c =
    let xs = c.expressions-of_frame.result.now in
    let a = c.write_frame_expressions.ensures in
    let many = shown-length IN_FRAME (all_located xs) a.0 a.1 ∙ length-map xs located_of in
    let b = c.write_list_expressions.ensures a.0 c.args.slots.now a.2 (sym many) in
    record {
      frame_shown = a.0;
      are_of_frame = subst (λ (l : List LocatedExpression). AreShown IN_FRAME l a.0)
          (c.expressions-of_frame.ensures ∙ ap (λ (f : FrameSection). f.expressions) c.frame.ensures) a.1;
      lists_shown = b.0;
      are_of_lists = subst (λ (l : List LocatedExpression). AreShown IN_LISTS l b.0)
          (c.expressions.ensures.expressions ∙ ap (λ (l : ListSection). located_in l) c.lists.ensures.lists) b.1;
      written = b.2;
    }
