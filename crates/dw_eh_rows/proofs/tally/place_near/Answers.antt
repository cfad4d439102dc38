use Rattle.std.proofs.Common.{◌≡◌, ℕ, sym, ap, ◌∙◌}
use Rattle.dw_frame.specs.Views.{cie_of}
use Rattle.dw_frame.specs.declared.entry.CommonInformationEntry.{CommonInformationEntry}
use Rattle.dw_rules.proofs.Elements.{contains-map}
use Rattle.dw_rows.proofs.Elements.{read-map}
use Rattle.dw_rows.proofs.Faults.{found-at}
use Rattle.std.proofs.Common.{map}
use Rattle.dw_eh_rows.proofs.tally.place_near.Goals as goal

abbrev offset_in : CommonInformationEntry → ℕ
offset_in c = c.offset

pub returns : goal.returns
returns c =
    let cies = c.args.cies.now in
    let x = c.index-cies-place.result in
    let place = c.in-Some.place in
    let here = sym c.index-cies-place.is in
    let at_x : offset_in x ≡ c.args.offset = ap offset_in c.index-cies-place.is ∙ (sym c.from.ensures ∙ c.if-from-offset.true) in (
      c.if-place-cies.true,
      found-at (map cie_of cies) c.requires (cie_of x) c.args.offset (contains-map cie_of cies x (place, c.if-place-cies.true, here)) at_x
          ∙ sym (read-map cie_of cies place x c.if-place-cies.true here),
    )
