use Rattle.std.proofs.Common.{List, length, sym, subst}
use Rattle.dw_stack.specs.declared.state.State.{State}
use Rattle.dw_stack.specs.Expressions.{operations_in, AreStatesOf}
use Rattle.dw_stack.specs.Certificates.{checked_in}
use Rattle.dw_stack.proofs.Stable.{states_stable}
use Rattle.dw_stack.proofs.certificate.Certificate.states.Goals as goal

pub returns-clause-states : goal.returns-clause-states
returns-clause-states c =
    let it = checked_in c.args.self.now in
    subst (λ (states : List State). AreStatesOf it.kind it.target it.bytes states) (sym c.as_slice.ensures)
    (states_stable it.kind (operations_in it.target it.bytes) (length it.bytes) c.args.self.now.states.items c.args.self.now.certified)
