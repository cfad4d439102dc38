use Rattle.std.proofs.Common.{rules}
use Rattle.std.specs.Prelude.{FitsSigned}
use Rattle.std.specs.Int.{w64}
use Rattle.dw_eval.specs.Numbers.{width_of}
use Rattle.dw_eval.proofs.Shifts.{shra_done}
use Rattle.dw_eval.proofs.width.Width.shra.Goals as goal

pub returns : goal.returns
returns c =
    let fits : FitsSigned w64 c.sign.result = search rules in
    shra_done (width_of c.args.self.size) c.args.a c.args.b c.min.result c.reduce_signed.result c.sign.result fits c.sign.ensures
    c.min.ensures c.reduce_signed.ensures
