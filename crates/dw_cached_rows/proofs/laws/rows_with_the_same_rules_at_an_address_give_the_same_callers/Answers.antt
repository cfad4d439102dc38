use Rattle.dw_cached_rows.proofs.OverLookUps.{gives-at}
use Rattle.dw_cached_rows.proofs.laws.rows_with_the_same_rules_at_an_address_give_the_same_callers.Goals as goal

pub returns : goal.returns
returns c = gives-at
