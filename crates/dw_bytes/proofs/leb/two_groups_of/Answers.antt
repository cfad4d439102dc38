use Rattle.std.proofs.Common.{get_or, arith}
use Rattle.dw_bytes.proofs.Chains.{chain_of_two, groups_of_two}
use Rattle.dw_bytes.proofs.leb.two_groups_of.Goals as goal

pub returns : goal.returns
returns c =
    let bytes = c.args.bytes.now in
    let low = get_or bytes 0 0 in
    let high = get_or bytes 1 0 in (
      low,
      high,
      grind (arith, groups_of_two low high),
      chain_of_two bytes (omega arith) (omega arith) (omega arith),
    )
