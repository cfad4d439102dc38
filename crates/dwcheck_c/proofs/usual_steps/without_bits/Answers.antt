use Rattle.std.proofs.Common.{◌≡◌, ◌+◌, ◌-◌, ◌^◌, ◌<◌, arith}
use Rattle.std.specs.Prelude.{bit_and}
use Rattle.std.proofs.lemmas.Nat.{and-not, and_comm}
use Rattle.dwcheck_c.proofs.usual_steps.without_bits.Goals as goal

pub returns : goal.returns
returns c =
    let m = c.args.bits in let n = c.args.address in
    let few : m < 2 ^ 64 = omega arith in
    let fits : n < 2 ^ 64 = omega arith in
    let both : bit_and (2 ^ 64 - 1 - m) n + bit_and m n ≡ n = and-not 64 m n few fits in
    omega (arith, both, and_comm n (2 ^ 64 - 1 - m), and_comm n m)
