use Rattle.std.proofs.Common.{◌≡◌, List, map, sym, ap, subst, ◌∙◌, true}
use Rattle.dw_frame.specs.declared.entry.CommonInformationEntry.{CommonInformationEntry}
use Rattle.dw_frame.specs.Views.{cie_of, fde_of}
use Rattle.dw_eh_frame.specs.Progress.{IsLast, IsUnderWay, has_cie_at}
use Rattle.dw_eh_frame.specs.Views.{fde_with_cie}
use Rattle.dw_eh_frame.proofs.Steps.{under-way-fde}
use Rattle.dw_eh_frame.proofs.records.read_usual.Goals as goal

pub returns-in_ok-push_fde-in-Some-usual_fde-clause-way : goal.returns-in_ok-push_fde-in-Some-usual_fde-clause-way
returns-in_ok-push_fde-in-Some-usual_fde-clause-way c =
    let section = c.args.section.now in
    let cies = map cie_of c.args.found.now.cies.items in
    let fdes = map fde_of c.args.found.now.fdes.items in
    let next = c.in-Some-usual_fde.next in
    let found = c.in-Some-usual_fde.ensures in
    let pushed = c.in_ok-push_fde-in-Some-usual_fde.ensures in
    let last = subst (IsLast c.args.is_aarch64 c.args.target section cies) c.in-Some.is c.requires.last in
    let known : has_cie_at cies c.in-Some-usual_fde.fde.cie_pointer ≡ true = ap (has_cie_at cies) found.pointer ∙ last.1 in (
      found.forward.0,
      subst (λ (l : List CommonInformationEntry). IsUnderWay c.args.is_aarch64 c.args.bases c.args.target section next (map cie_of l)
          (map fde_of c.push_fde.new.found.fdes.items)) (sym pushed.cies)
          (subst (IsUnderWay c.args.is_aarch64 c.args.bases c.args.target section next cies) (sym pushed.fdes)
          (under-way-fde c.args.is_aarch64 c.args.bases c.args.target section c.args.at next
          (fde_with_cie c.in-Some.cie c.in-Some-usual_fde.fde) cies fdes c.requires.way found.exact found.sound found.forward.1 known)),
    )
