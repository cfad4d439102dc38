use Rattle.std.proofs.Common.{◌≡◌, ℕ, List, sym, subst, map, length, None, rules}
use Rattle.dw_frame.specs.Views.{cie_of, fde_of}
use Rattle.dw_frame.specs.declared.entry.CommonInformationEntry.{CommonInformationEntry}
use Rattle.dw_frame.specs.declared.entry.FrameDescriptionEntry.{FrameDescriptionEntry}
use Rattle.dw_stack.specs.Located.{all_located}
use Rattle.dw_rules.specs.Expressions.{cie_expressions, frame_expressions}
use Rattle.std.specs.List.{flat_map}
use Rattle.dw_rows.specs.Section.{parts_fault, placed_rows}
use Rattle.dw_rows.proofs.sections.CheckedSections.{kept, read-checked, read-cies-ascend, read-fdes-ascend}
use Rattle.dw_rows.proofs.sections.ListedSections.{checked-listed}
use Rattle.dw_rows.specs.Section.{AreReadIn, IsChecked, frame_by}
use Rattle.dw_bytes.specs.declared.target.Target.{Target}
use Rattle.dw_rows.proofs.sections.Standing.{parts-answered}
use Rattle.dw_rows.proofs.checked_frame.check_records.Goals as goal

pub check_parts-requires-clause-cies : goal.check_parts-requires-clause-cies
check_parts-requires-clause-cies c =
    rw c.deref.ensures.value (read-cies-ascend _ _ _ (map fde_of c.args.fdes.items) c.requires)

pub check_parts-requires-clause-fdes : goal.check_parts-requires-clause-fdes
check_parts-requires-clause-fdes c =
    rw c.deref-2.ensures.value (read-fdes-ascend _ _ (map cie_of c.args.cies.items) _ c.requires)

accepted : (target : Target) (section : List ℕ) (cies read_cies : List CommonInformationEntry) (fdes read_fdes : List FrameDescriptionEntry)
    → AreReadIn target (length section) (map cie_of cies) (map fde_of fdes) → read_cies ≡ cies → read_fdes ≡ fdes
    → parts_fault (map cie_of read_cies) (map fde_of read_fdes) ≡ None
    → IsChecked (frame_by target section (map cie_of cies) (map fde_of fdes))
accepted target section cies read_cies fdes read_fdes read same_cies same_fdes none =
    read-checked target section (map cie_of cies) (map fde_of fdes) read (rw (sym same_cies, sym same_fdes) none)

pub of_parts-listed-requires-clause-listed : goal.of_parts-listed-requires-clause-listed
of_parts-listed-requires-clause-listed c = checked-listed _ (accepted c.args.target c.args.section.now c.args.cies.items c.deref.result.now
    c.args.fdes.items c.deref-2.result.now c.requires c.deref.ensures.value c.deref-2.ensures.value c.in_ok-programs.ensures.answer)

pub invariant_of-result : goal.invariant_of-result
invariant_of-result c =
    let cies = c.args.cies.items in
    let fdes = c.args.fdes.items in
    let expressions = c.in_ok-programs.programs.expressions.items in
    let listed : all_located expressions ≡ frame_expressions (map cie_of cies) (map fde_of fdes) =
    subst (λ (l : List CommonInformationEntry). all_located expressions ≡ frame_expressions (map cie_of l) (map fde_of fdes))
    c.deref.ensures.value (subst (λ (l : List FrameDescriptionEntry). all_located expressions
    ≡ frame_expressions (map cie_of c.deref.result.now) (map fde_of l)) c.deref-2.ensures.value c.in_ok-programs.ensures.expressions) in
    let counted : c.in_ok-programs.programs.in_cies ≡ length (cie_expressions (map cie_of cies)) =
    subst (λ (l : List CommonInformationEntry). c.in_ok-programs.programs.in_cies ≡ length (cie_expressions (map cie_of l)))
    c.deref.ensures.value c.in_ok-programs.ensures.in_cies in
    let rows : c.in_ok-programs.programs.rows ≡ length (flat_map (placed_rows (map cie_of cies)) (map fde_of fdes)) =
    subst (λ (l : List CommonInformationEntry). c.in_ok-programs.programs.rows
    ≡ length (flat_map (placed_rows (map cie_of l)) (map fde_of fdes))) c.deref.ensures.value
    (subst (λ (l : List FrameDescriptionEntry). c.in_ok-programs.programs.rows
    ≡ length (flat_map (placed_rows (map cie_of c.deref.result.now)) (map fde_of l))) c.deref-2.ensures.value c.in_ok-programs.ensures.rows) in
    rw c.of_parts-listed.ensures (kept _ (accepted c.args.target c.args.section.now cies c.deref.result.now
    fdes c.deref-2.result.now c.requires c.deref.ensures.value c.deref-2.ensures.value c.in_ok-programs.ensures.answer) (all_located expressions) listed c.in_ok-programs.programs.in_cies counted
    c.in_ok-programs.programs.rows rows)

pub returns-in_err-programs-clause-inside : goal.returns-in_err-programs-clause-inside
returns-in_err-programs-clause-inside c = parts-answered c.args.target (length c.args.section.now) (map cie_of c.args.cies.items)
    (map fde_of c.args.fdes.items) c.from_residual.result c.requires (search rules)
