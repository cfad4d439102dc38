use Rattle.dw_cached_rows.proofs.Steps.{last-frame}
use Rattle.dw_cached_rows.proofs.stack_place.last_step.Goals as goal

pub returns-clause-step : goal.returns-clause-step
returns-clause-step g c = λ p full at is.
    last-frame c.rows_without_expressions_have_callers.ensures _ c.args.row.now full c.args.here.now p c.requires at is
