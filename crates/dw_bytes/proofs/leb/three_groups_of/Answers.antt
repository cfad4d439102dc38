use Rattle.std.proofs.Common.{get_or, arith}
use Rattle.dw_bytes.proofs.Chains.{chain_of_three, groups_of_three, three_groups-lt}
use Rattle.dw_bytes.proofs.leb.three_groups_of.Goals as goal

pub returns : goal.returns
returns c =
    let bytes = c.args.bytes.now in
    let low = get_or bytes 0 0 in
    let mid = get_or bytes 1 0 in
    let high = get_or bytes 2 0 in (
      low,
      mid,
      high,
      grind (arith, groups_of_three low mid high),
      grind (arith, three_groups-lt low mid high),
      chain_of_three bytes (omega arith) (omega arith) (omega arith) (omega arith),
    )
