-- The report on two sections: its counts, and its lines on expressions.
use Rattle.std.proofs.Common.{◌≡◌, ℕ, suc, ◌+◌, ◌<◌, List, [], ◌∷◌, ◌++◌, length, map, drop, refl, ap, sym, subst, ◌∙◌}
use Rattle.std.proofs.Common.{get_or, drop-cons, add-one}
use Rattle.std.specs.List.{flat_map}
use Rattle.std.proofs.lemmas.List.{length-map}
use Rattle.dw_rows.specs.Section.{FrameSection}
use Rattle.dw_stack.specs.declared.checked.CheckedExpression.{CheckedExpression}
use Rattle.dw_bytes.specs.declared.target.Target.{Target}
use Rattle.dw_stack.specs.declared.state.Kind.{Kind}
use Rattle.dw_stack.specs.Expressions.{IsDepthOf}
use Rattle.dw_stack.specs.Certificates.{checked_of}
use Rattle.dw_stack.proofs.Stable.{checked_stable}
use Rattle.dw_stack.specs.Located.{LocatedExpression, located_of}
use Rattle.dw_loclists.specs.Reading.{ListSection, located_in}
use Rattle.dw_check.specs.Report.{AreLines, IsReport, summary_text, expression_line}
use Rattle.dw_check.specs.ReportViews.{line_of}
use Rattle.dw_sections.specs.declared.section.Section.{Section}
use Rattle.dw_sections.specs.declared.section.Section.TheVariants as sections

-- ---- counts

pub of_mapped : {X Y : Type 0} (f : X → Y) (xs : List X) (ys : List Y) → map f xs ≡ ys → length xs ≡ length ys
of_mapped f xs ys e = sym (length-map xs f) ∙ ap length e

pub mapped_of : {X Y : Type 0} (f : X → Y) (xs : List X) (ys : List Y) → ys ≡ map f xs → length ys ≡ length xs
mapped_of f xs ys e = ap length e ∙ length-map xs f

pub both_mapped : {X Y Z : Type 0} (f : X → Z) (g : Y → Z) (xs : List X) (ys : List Y) → map f xs ≡ map g ys → length xs ≡ length ys
both_mapped f g xs ys e = sym (length-map xs f) ∙ ap length e ∙ length-map ys g

-- ---- the lines of expressions

-- the lines that the code writes for checked expressions are their lines in a report
pub lines_are : (section : Section) (xs : List (ℕ × CheckedExpression))
    → AreLines section (map located_of xs) (flat_map (line_of section) xs)
lines_are section [] = refl
lines_are section (x ∷ xs) = (
  (checked_of x.1).depth,
  flat_map (line_of section) xs,
  (checked_stable (checked_of x.1) x.1.checked).depth,
  lines_are section xs,
  refl,
)

-- the elements from index i on are the element at i, followed by the elements from i + 1 on
pub next_here : {X : Type 0} (xs : List X) (i : ℕ) (x : X) → i < length xs → x ≡ get_or xs i x → drop i xs ≡ x ∷ drop (i + 1) xs
next_here xs i x h e =
    drop-cons xs i x h ∙ ap (λ y. y ∷ drop (suc i) xs) (sym e) ∙ ap (λ n. x ∷ drop n xs) (sym (add-one i))

-- the text with the counts and the lines of both sections is a report
pub reported : (frame : FrameSection) (lists : ListSection) (xs : List (ℕ × CheckedExpression)) (lines : List ℕ)
    → map located_of xs ≡ frame.expressions → AreLines sections.Lists (located_in lists) lines
    → IsReport frame lists (summary_text frame lists ++ (flat_map (line_of sections.Frame) xs ++ lines))
reported frame lists xs lines d are = record {
  frame_lines = flat_map (line_of sections.Frame) xs;
  of_frame = subst (λ located. AreLines sections.Frame located (flat_map (line_of sections.Frame) xs)) d (lines_are sections.Frame xs);
  lines = lines;
  of_lists = are;
  whole = refl;
}

-- ---- there is at most one report, assuming that an expression has at most one depth

pub lines_one : ((kind : Kind) (target : Target) (bytes : List ℕ) (d e : ℕ) → IsDepthOf kind target bytes d → IsDepthOf kind target bytes e
    → d ≡ e) → (section : Section) (xs : List LocatedExpression) (s t : List ℕ) → AreLines section xs s → AreLines section xs t → s ≡ t
lines_one depths section [] s t h k = h ∙ sym k
lines_one depths section (x ∷ xs) s t h k =
    let depth : h.0 ≡ k.0 = depths x.kind x.target x.bytes h.0 k.0 h.2 k.2 in
    let rest : h.1 ≡ k.1 = lines_one depths section xs h.1 k.1 h.3 k.3 in
    h.4 ∙ ap (λ d. expression_line section x d ++ h.1) depth ∙ ap (λ r. expression_line section x k.0 ++ r) rest ∙ sym k.4

pub report_one : ((kind : Kind) (target : Target) (bytes : List ℕ) (d e : ℕ) → IsDepthOf kind target bytes d → IsDepthOf kind target bytes e
    → d ≡ e) → (frame : FrameSection) (lists : ListSection) (s t : List ℕ) → IsReport frame lists s → IsReport frame lists t → s ≡ t
report_one depths frame lists s t h k =
    let first = lines_one depths sections.Frame frame.expressions h.frame_lines k.frame_lines h.of_frame k.of_frame in
    let same = lines_one depths sections.Lists (located_in lists) h.lines k.lines h.of_lists k.of_lists in
    h.whole ∙ ap (λ l. summary_text frame lists ++ (l ++ h.lines)) first
    ∙ ap (λ l. summary_text frame lists ++ (k.frame_lines ++ l)) same ∙ sym k.whole
