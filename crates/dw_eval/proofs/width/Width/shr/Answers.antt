use Rattle.std.proofs.Common.{◌<◌, ◌%◌, ◌^◌, ℕ, sym, ap, ◌∙◌, arith}
use Rattle.std.proofs.Math.Nat.{zero-mod}
use Rattle.dw_eval.specs.Numbers.{width_of}
use Rattle.dw_eval.proofs.Shifts.{shr_far}
use Rattle.dw_eval.proofs.width.Width.shr.Goals as goal

pub returns-else-b-lt64 : goal.returns-else-b-lt64
returns-else-b-lt64 c =
    let lt : c.args.a < 2 ^ 64 = omega arith in
    sym (ap (λ (n : ℕ). n % 2 ^ width_of c.args.self.size) (shr_far c.args.a 64 c.args.b lt (omega arith))
    ∙ zero-mod (2 ^ width_of c.args.self.size))
