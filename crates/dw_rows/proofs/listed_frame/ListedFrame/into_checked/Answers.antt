use Rattle.std.proofs.Common.{◌≡◌, ◌++◌, List, None, ap, length, map, rules, sym, subst, ◌∙◌}
use Rattle.std.specs.List.{flat_map}
use Rattle.dw_frame.specs.declared.entry.FrameDescriptionEntry.{FrameDescriptionEntry}
use Rattle.dw_stack.specs.Located.{LocatedExpression, all_located}
use Rattle.dw_rules.specs.Expressions.{cie_expressions, fde_expressions, frame_expressions}
use Rattle.dw_rows.proofs.sections.CheckedSections.{kept}
use Rattle.dw_frame.specs.Views.{cie_of, fde_of}
use Rattle.dw_rows.specs.Listing.{AreCounted, IsKept}
use Rattle.dw_rows.specs.Section.{FrameSection, first_fault, parts_fault, placed_rows, program_fault}
use Rattle.dw_rows.proofs.sections.ListedSections.{listed-checked, listed-cies-ascend, listed-fault}
use Rattle.dw_rows.proofs.listed_frame.ListedFrame.into_checked.Goals as goal

pub check_fdes-requires-clause-order : goal.check_fdes-requires-clause-order
check_fdes-requires-clause-order c = rw c.deref.ensures.value (listed-cies-ascend _ c.self.invariant.listed)

pub check_fdes-requires-clause-counted : goal.check_fdes-requires-clause-counted
check_fdes-requires-clause-counted c = rw (c.deref.ensures.value, c.deref-2.ensures.value)
    (subst (λ (s : FrameSection). AreCounted s.cies s.fdes c.args.counted.now) (sym c.self.view_is) c.requires.counted)

pub returns-in_err-rows-clause-answer : goal.returns-in_err-rows-clause-answer
returns-in_err-rows-clause-answer c =
    let same : parts_fault c.args.self.cies c.args.self.fdes
    ≡ first_fault (program_fault (map cie_of c.deref.result.now)) (map fde_of c.deref-2.result.now) =
    rw (c.deref.ensures.value, c.deref-2.ensures.value)
    (subst (λ (s : FrameSection). parts_fault s.cies s.fdes ≡ first_fault (program_fault (map cie_of c.self.inside.cies.items))
    (map fde_of c.self.inside.fdes.items)) c.self.view_is (listed-fault _ c.self.invariant.listed)) in
    rw same (search rules)

pub of_parts-requires : goal.of_parts-requires
of_parts-requires c =
    let cies = map cie_of c.self.inside.cies.items in
    let fdes = map fde_of c.self.inside.fdes.items in
    let none : first_fault (program_fault cies) fdes ≡ None =
    rw (sym c.deref.ensures.value, sym c.deref-2.ensures.value) c.in_ok-rows.ensures.answer in
    let of_cies : c.args.checked ≡ cie_expressions cies =
    c.requires.expressions ∙ ap (λ (s : FrameSection). cie_expressions s.cies) (sym c.self.view_is) in
    let all : all_located c.in_ok-expressions.expressions.items ≡ frame_expressions cies fdes =
    c.in_ok-expressions.ensures ∙ c.in_ok-rows.ensures.kept
    ∙ ap (λ (l : List FrameDescriptionEntry). c.args.checked ++ fde_expressions (map fde_of l)) c.deref-2.ensures.value
    ∙ ap (λ l. l ++ fde_expressions fdes) of_cies in
    let rows : c.in_ok-rows.rows ≡ length (flat_map (placed_rows cies) fdes) =
    rw (sym c.deref.ensures.value, sym c.deref-2.ensures.value) c.in_ok-rows.ensures.rows in
    subst (λ (s : FrameSection). IsKept s (all_located c.in_ok-expressions.expressions.items) c.count-in_cies.result c.in_ok-rows.rows)
    c.self.view_is (kept _ (listed-checked _ c.self.invariant.listed none) (all_located c.in_ok-expressions.expressions.items) all
    c.count-in_cies.result (c.count-in_cies.ensures ∙ ap (λ (l : List LocatedExpression). length l) of_cies) c.in_ok-rows.rows rows)
