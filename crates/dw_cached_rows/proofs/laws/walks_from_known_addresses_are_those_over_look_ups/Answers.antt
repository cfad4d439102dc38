use Rattle.dw_cached_rows.proofs.OverLookUps.{over-look-ups-at}
use Rattle.dw_cached_rows.proofs.laws.walks_from_known_addresses_are_those_over_look_ups.Goals as goal

pub returns : goal.returns
returns g c = λ source rows confirmed memory from frames target.
    over-look-ups-at c.rules_under_abis.ensures.all rows confirmed memory (g.T.UnwindRows.finds source) from frames
