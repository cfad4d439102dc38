use Rattle.std.proofs.Common.{◌≡◌, rules}
use Rattle.std.specs.Prelude.{slice_index_or}
use Rattle.dw_stack.specs.declared.in_state.InState.TheVariants.{Unreached, Known}
use Rattle.dw_stack.specs.InStates.{given_of}
use Rattle.dw_stack.specs.Faults.{FitsCertificate}
use Rattle.dw_stack.specs.Views.{placed_in}
use Rattle.dw_stack.proofs.paths.Describes.{arrived_is}
use Rattle.dw_stack.proofs.Checking.{step_objects}
use Rattle.dw_stack.proofs.step.step_of_pass.Goals as goal

pub returns-in_err-out-clause-err : goal.returns-in_err-out-clause-err
returns-in_err-out-clause-err c =
    let one : slice_index_or c.args.in_states.now c.args.i Unreached ≡ Known c.in_ok-state.state =
    arrived_is (slice_index_or c.args.in_states.now c.args.i Unreached) c.in_ok-state.state c.in_ok-state.ensures in
    let is : FitsCertificate (placed_in c.args.operations.now) c.args.end (given_of c.args.given) c.args.i c.in_ok-state.state = search rules in
    let bad = step_objects c.args.kind (placed_in c.args.operations.now) c.args.end
    (given_of c.args.given) c.args.i c.args.pieces c.args.in_states.now c.in_err-out.field-0.0 c.in_ok-state.state one is
    c.in_err-out.ensures.err in
    search rules
