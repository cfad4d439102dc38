use Rattle.std.proofs.Common.{rules}
use Rattle.std.specs.Prelude.{FitsSigned}
use Rattle.std.specs.Int.{w64}
use Rattle.dw_eval.specs.Numbers.{width_of}
use Rattle.dw_eval.proofs.Shifts.{width_le, div_done}
use Rattle.dw_eval.proofs.width.Width.div.Goals as goal

pub returns : goal.returns
returns c =
    let left : FitsSigned w64 c.sign.result = search rules in
    let right : FitsSigned w64 c.sign-2.result = search rules in
    let fits : FitsSigned w64 c.wrapping_div.result = search rules in
    div_done (width_of c.args.self.size) c.args.a c.args.b c.reduce_signed.result c.sign.result c.sign-2.result c.wrapping_div.result
    (width_le c.args.self.size) left right fits c.sign.ensures c.sign-2.ensures c.wrapping_div.ensures c.reduce_signed.ensures
