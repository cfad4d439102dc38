use Rattle.dw_cached_rows.proofs.OverLookUps.{same-caller}
use Rattle.dw_cached_rows.proofs.laws.rows_with_the_same_rules_give_the_same_callers.Goals as goal

pub returns : goal.returns
returns c = same-caller
