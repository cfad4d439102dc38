use Rattle.dw_loclists.proofs.Standing.{held-by-base, one-default}
use Rattle.dw_loclists.proofs.laws.entries_hold_by_the_base_before_them.Goals as goal

pub returns : goal.returns
returns c = record { held = held-by-base; one_default = one-default }
