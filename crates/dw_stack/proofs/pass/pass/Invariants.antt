use Rattle.dw_stack.specs.InStates.{given_of}
use Rattle.dw_stack.specs.Views.{placed_in}
use Rattle.dw_stack.proofs.Walks.{Walked}
use Rattle.dw_stack.proofs.pass.pass.Given as goal

abbrev pub invariant-loop-i : goal.invariant-loop-i
invariant-loop-i l = Walked l.kind (placed_in l.operations) l.end (given_of l.given) l.i l.states.items l.in_states.items l.depth l.pieces
