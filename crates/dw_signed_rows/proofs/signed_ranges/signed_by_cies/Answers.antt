use Rattle.std.proofs.Common.{sym}
use Rattle.dw_frame.specs.Views.{cie_of}
use Rattle.dw_rules.proofs.Elements.{contains-map}
use Rattle.dw_signed_rows.proofs.signed_ranges.signed_by_cies.Goals as goal

pub is_signed_by_cie-requires : goal.is_signed_by_cie-requires
is_signed_by_cie-requires c =
    let cie = c.cie-item.result in
    c.requires (cie_of cie) (contains-map cie_of c.args.cies.now cie (c.loop-cie.cie-index, c.loop-cie-test.true, sym c.cie-item.is))
