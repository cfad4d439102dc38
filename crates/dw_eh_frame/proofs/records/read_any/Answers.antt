use Rattle.std.proofs.Common.{◌≡◌, ◌∷◌, ◌++◌, [], List, map, sym, ap, subst, ◌∙◌, Ok}
use Rattle.std.proofs.lemmas.Result.{err_from_is_err_and}
use Rattle.dw_bytes.specs.Reading.{section_from}
use Rattle.dw_frame.specs.Records.{Cie}
use Rattle.dw_frame.specs.declared.entry.CommonInformationEntry.{CommonInformationEntry}
use Rattle.dw_frame.specs.declared.entry.FrameDescriptionEntry.{FrameDescriptionEntry}
use Rattle.dw_frame.specs.Views.{cie_of, fde_of}
use Rattle.dw_eh_frame.specs.declared.record.EhRecord as declared
use Rattle.dw_eh_frame.specs.Progress.{IsUnderWay, has_cie_at}
use Rattle.dw_eh_frame.specs.Records.{eh_record_at}
use Rattle.dw_eh_frame.specs.Views.{HasCieOf, LiesAt, eh_cie_of, eh_fde_of, eh_record_of}
use Rattle.dw_eh_frame.proofs.Steps.{under-way-ascend, under-way-nothing, under-way-cie, under-way-fde, under-way-fault, under-way-lost}
use Rattle.dw_eh_frame.proofs.records.read_any.Goals as goal

pub returns-in_err-record-clause-stops : goal.returns-in_err-record-clause-stops
returns-in_err-record-clause-stops c =
    let p = err_from_is_err_and c.from_residual.result c.from_residual.ensures.1 in
    rw (p.1, p.2)
    (under-way-fault c.args.is_aarch64 c.args.bases c.args.target c.args.section.now c.args.at (map cie_of c.args.found.now.cies.items)
    (map fde_of c.args.found.now.fdes.items) _ c.requires.way c.requires.inside c.in_err-record.ensures.exact)

pub take_fde-requires : goal.take_fde-requires
take_fde-requires c = under-way-ascend c.requires.way

pub returns-in_err-take_fde-in-Fde-clause-stops : goal.returns-in_err-take_fde-in-Fde-clause-stops
returns-in_err-take_fde-in-Fde-clause-stops c =
    let section = c.args.section.now in
    let target = c.args.target in
    let next = c.in_ok-record.next in
    let is = subst (λ (x : declared.EhRecord). eh_record_at c.args.is_aarch64 c.args.bases section (section_from target section c.args.at)
    ≡ Ok (eh_record_of x, section_from target section next)) c.in-Fde.is c.in_ok-record.ensures.exact in
    let p = err_from_is_err_and c.from_residual-in_err-take_fde-in-Fde.result c.from_residual-in_err-take_fde-in-Fde.ensures.1 in
    rw (p.1, p.2)
    (under-way-lost c.args.is_aarch64 c.args.bases target section c.args.at next (eh_fde_of c.in-Fde.fde)
    (map cie_of c.args.found.now.cies.items) (map fde_of c.args.found.now.fdes.items) _ c.requires.way is
    c.in_err-take_fde-in-Fde.ensures.refused)

pub returns-in_ok-take_cie-in-Cie-clause-way : goal.returns-in_ok-take_cie-in-Cie-clause-way
returns-in_ok-take_cie-in-Cie-clause-way c =
    let section = c.args.section.now in
    let target = c.args.target in
    let next = c.in_ok-record.next in
    let cies = map cie_of c.args.found.now.cies.items in
    let fdes = map fde_of c.args.found.now.fdes.items in
    let is = subst (λ (x : declared.EhRecord). eh_record_at c.args.is_aarch64 c.args.bases section (section_from target section c.args.at)
    ≡ Ok (eh_record_of x, section_from target section next)) c.in-Cie.is c.in_ok-record.ensures.exact in
    let lies = subst (λ (x : declared.EhRecord). LiesAt target c.args.at next (eh_record_of x)) c.in-Cie.is c.in_ok-record.ensures.sound in (
      c.in_ok-record.ensures.forward.0,
      subst (λ (l : List Cie). IsUnderWay c.args.is_aarch64 c.args.bases target section next l (map fde_of c.take_cie.new.found.fdes.items))
          (sym c.in_ok-take_cie-in-Cie.ensures.cies)
          (subst (λ (l : List FrameDescriptionEntry). IsUnderWay c.args.is_aarch64 c.args.bases target section next
          (cies ++ cie_of c.in-Cie.cie.cie ∷ []) (map fde_of l)) (sym c.in_ok-take_cie-in-Cie.ensures.fdes)
          (under-way-cie c.args.is_aarch64 c.args.bases target section c.args.at next (eh_cie_of c.in-Cie.cie) cies fdes c.requires.way is lies
          c.in_ok-record.ensures.forward.1)),
    )

pub returns-in_ok-take_fde-in-Fde-clause-way : goal.returns-in_ok-take_fde-in-Fde-clause-way
returns-in_ok-take_fde-in-Fde-clause-way c =
    let section = c.args.section.now in
    let target = c.args.target in
    let next = c.in_ok-record.next in
    let cies = map cie_of c.args.found.now.cies.items in
    let fdes = map fde_of c.args.found.now.fdes.items in
    let took = c.in_ok-take_fde-in-Fde.ensures in
    let is = subst (λ (x : declared.EhRecord). eh_record_at c.args.is_aarch64 c.args.bases section (section_from target section c.args.at)
    ≡ Ok (eh_record_of x, section_from target section next)) c.in-Fde.is c.in_ok-record.ensures.exact in
    let lies = subst (λ (x : declared.EhRecord). LiesAt target c.args.at next (eh_record_of x)) c.in-Fde.is c.in_ok-record.ensures.sound in (
      c.in_ok-record.ensures.forward.0,
      subst (λ (l : List CommonInformationEntry). IsUnderWay c.args.is_aarch64 c.args.bases target section next (map cie_of l)
          (map fde_of c.take_fde.new.found.fdes.items)) (sym took.cies)
          (subst (IsUnderWay c.args.is_aarch64 c.args.bases target section next cies) (sym took.fdes)
          (under-way-fde c.args.is_aarch64 c.args.bases target section c.args.at next (eh_fde_of c.in-Fde.fde) cies fdes c.requires.way is lies
          c.in_ok-record.ensures.forward.1 took.known)),
    )

pub returns-in_ok-take_fde-in-Fde-clause-last : goal.returns-in_ok-take_fde-in-Fde-clause-last
returns-in_ok-take_fde-in-Fde-clause-last c =
    let took = c.in_ok-take_fde-in-Fde.ensures in
    let found = subst (λ (x : declared.EhRecord). HasCieOf c.args.is_aarch64 c.args.target c.args.section.now x) c.in-Fde.is
    c.in_ok-record.ensures.cie in
    let cies = map cie_of c.take_fde.new.found.cies.items in (
      found.0,
      ap (has_cie_at cies) (sym found.1)
          ∙ (ap (λ (l : List CommonInformationEntry). has_cie_at (map cie_of l) c.in-Fde.fde.fde.cie_pointer) took.cies ∙ took.known),
    )

pub returns-in-Nothing-clause-way : goal.returns-in-Nothing-clause-way
returns-in-Nothing-clause-way c =
    let section = c.args.section.now in
    let target = c.args.target in
    let next = c.in_ok-record.next in
    let is = subst (λ (x : declared.EhRecord). eh_record_at c.args.is_aarch64 c.args.bases section (section_from target section c.args.at)
    ≡ Ok (eh_record_of x, section_from target section next)) c.in-Nothing.is c.in_ok-record.ensures.exact in (
      c.in_ok-record.ensures.forward.0,
      under-way-nothing c.args.is_aarch64 c.args.bases target section c.args.at next c.in-Nothing.field-0
          (map cie_of c.args.found.now.cies.items) (map fde_of c.args.found.now.fdes.items) c.requires.way is c.in_ok-record.ensures.forward.0
          c.in_ok-record.ensures.forward.1,
    )
