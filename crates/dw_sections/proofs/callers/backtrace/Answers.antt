use Rattle.std.proofs.Common.{◌^◌, ap, arith}
use Rattle.std.proofs.lemmas.Result.{IfOk-weaker}
use Rattle.dw_eval.specs.Numbers.{width_of}
use Rattle.dw_rows.specs.Section.{FrameSection}
use Rattle.dw_sections.proofs.callers.backtrace.Goals as goal

pub returns-clause-fits : goal.returns-clause-fits
returns-clause-fits g c =
    let same = ap (λ (s : FrameSection). 2 ^ width_of s.target.address_size) c.frame.ensures in
    IfOk-weaker c.backtrace.result _ _
    (λ walk fits below. fits (2 ^ width_of c.args.checked.now.frame.target.address_size) (omega (arith, same)) below)
    c.backtrace.ensures.fits
