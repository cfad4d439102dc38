use Rattle.std.proofs.Common.{◌≡◌, Some, None, Option, List, sym, subst, ◌∙◌, ap, map, Contains}
use Rattle.dw_frame.specs.Records.{Cie}
use Rattle.dw_frame.specs.Views.{cie_of, fde_of}
use Rattle.dw_frame.specs.declared.entry.CommonInformationEntry.{CommonInformationEntry}
use Rattle.dw_rows.specs.Section.{FrameSection, cie_at}
use Rattle.dw_rows.proofs.Faults.{at-found}
use Rattle.dw_frame.specs.Bounds.{Ascends}
use Rattle.dw_rows.specs.AddressIndex.{cie_offset}
use Rattle.dw_rows.proofs.sections.ListedSections.{listed-cies-ascend, listed-cies-good, listed-pointed}
use Rattle.dw_rows.proofs.listed_frame.ListedFrame.cie_of.Goals as goal

pub find_cie-requires : goal.find_cie-requires
find_cie-requires c =
    subst (λ (l : List CommonInformationEntry). Ascends cie_offset (map cie_of l)) (sym c.deref.ensures.value)
    (listed-cies-ascend _ c.self.invariant.listed)

pub unreachable-requires : goal.unreachable-requires
unreachable-requires c =
    let fde = fde_of c.args.fde.now in
    let cies = map cie_of c.self.inside.cies.items in
    let fdes = map fde_of c.self.inside.fdes.items in
    let among : Contains fdes fde = subst (λ (s : FrameSection). Contains s.fdes fde) (sym c.self.view_is) c.requires in
    let pointed = listed-pointed _ c.self.invariant.listed fde among in
    let same : cie_at (map cie_of c.deref.result.now) fde.cie_pointer ≡ cie_at cies fde.cie_pointer =
    ap (λ (l : List CommonInformationEntry). cie_at (map cie_of l) fde.cie_pointer) c.deref.ensures.value in
    let nothing : Option Cie = None in
    let clash : nothing ≡ Some pointed.0 = c.in-None.ensures ∙ (same ∙ pointed.1) in
    cc

pub returns-clause-cie_program : goal.returns-clause-cie_program
returns-clause-cie_program c =
    let fde = fde_of c.args.fde.now in
    let cies = map cie_of c.self.inside.cies.items in
    let same : cie_at (map cie_of c.deref.result.now) fde.cie_pointer ≡ cie_at cies fde.cie_pointer =
    ap (λ (l : List CommonInformationEntry). cie_at (map cie_of l) fde.cie_pointer) c.deref.ensures.value in
    let found = at-found cies fde.cie_pointer (cie_of c.in-Some.cie) (sym same ∙ sym c.in-Some.ensures) in
    listed-cies-good _ c.self.invariant.listed (cie_of c.in-Some.cie) found.0
