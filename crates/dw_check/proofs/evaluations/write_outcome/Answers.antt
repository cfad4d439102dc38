use Rattle.std.proofs.Common.{length, sym}
use Rattle.dw_stack.specs.Certificates.{checked_of}
use Rattle.dw_eval.specs.Views.{outcome_of}
use Rattle.dw_check.specs.Outcomes.{evaluation_text}
use Rattle.dw_state.specs.StateViews.{known_state_of}
use Rattle.dw_check.proofs.Evaluated.{same_bound, evaluates}
use Rattle.dw_check.proofs.evaluations.write_outcome.Goals as goal

pub write_evaluation-requires-clause-fits : goal.write_evaluation-requires-clause-fits
write_evaluation-requires-clause-fits g c =
    let checked = checked_of c.args.checked.now in
    let size = c.requires.size in
    (length checked.bytes, rw (size, sym (same_bound checked.target.address_size)) c.evaluate-evaluation.ensures.fits)

pub returns-clause-written : goal.returns-clause-written
returns-clause-written g c = λ gs given.
    let checked = checked_of c.args.checked.now in
    let outcome = outcome_of c.evaluate-evaluation.result.outcome in
    let steps = c.evaluate-evaluation.result.steps in
    let size = c.requires.size in
    let shown = evaluates checked
    (known_state_of c.args.state.now) gs outcome steps c.depth.result c.requires.short c.requires.good given
    c.evaluate-evaluation.ensures.run c.depth.ensures.depth in
    (evaluation_text checked.target.address_size outcome steps c.depth.result, shown, rw (← size) c.write_evaluation.ensures.written)
