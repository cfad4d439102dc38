use Rattle.dwcheck_c.proofs.CachedFills.{after-fill, after-forget, none-in-zeros, walks-over-look-ups}
use Rattle.dwcheck_c.proofs.cached_walks.kept_rows_are_those_of_look_ups.Goals as goal

pub returns-clause-zeros : goal.returns-clause-zeros
returns-clause-zeros c = none-in-zeros

pub returns-clause-filled : goal.returns-clause-filled
returns-clause-filled c = after-fill

pub returns-clause-forgotten : goal.returns-clause-forgotten
returns-clause-forgotten c = after-forget

pub returns-clause-walks : goal.returns-clause-walks
returns-clause-walks c = walks-over-look-ups c.rules_under_abis.ensures.all
