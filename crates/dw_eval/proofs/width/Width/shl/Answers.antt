use Rattle.std.proofs.Common.{◌≤◌, sym, arith}
use Rattle.dw_eval.specs.Numbers.{width_of}
use Rattle.dw_eval.proofs.Shifts.{width_le, shl_far}
use Rattle.dw_eval.proofs.width.Width.shl.Goals as goal

pub returns-else-b-lt64 : goal.returns-else-b-lt64
returns-else-b-lt64 c =
    let le : width_of c.args.self.size ≤ c.args.b = omega (arith, width_le c.args.self.size) in
    sym (shl_far c.args.a (width_of c.args.self.size) c.args.b le)
