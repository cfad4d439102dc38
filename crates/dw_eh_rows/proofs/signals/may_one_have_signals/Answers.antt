use Rattle.std.proofs.Common.{map, subst, sym, ◌∙◌, ap}
use Rattle.std.proofs.lemmas.List.{get_or-map}
use Rattle.std.proofs.lemmas.List.Elements.{AllWithin-more}
use Rattle.dw_frame.specs.Views.{cie_of}
use Rattle.dw_eh_rows.specs.Signals.{HasNoSignals}
use Rattle.dw_eh_rows.proofs.signals.may_one_have_signals.Goals as goal

pub loop-cie-preserved : goal.loop-cie-preserved
loop-cie-preserved c =
    AllWithin-more (HasNoSignals c.args.is_aarch64 c.args.target c.args.section.now) (map cie_of c.args.cies.now) 0 c.loop-cie.cie-index c.loop-cie.invariant
    (λ d. subst (HasNoSignals c.args.is_aarch64 c.args.target c.args.section.now)
    (ap cie_of c.cie-item.is ∙ sym (get_or-map cie_of c.args.cies.now c.loop-cie.cie-index c.cie-item.result d c.loop-cie-test.true))
    c.if-may_have_signals.ensures)
