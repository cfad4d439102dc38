use Rattle.std.proofs.Common.{◌-◌}
use Rattle.dw_stack.proofs.paths.Unbranched.{CheckedSoFar}
use Rattle.dw_stack.proofs.branchless_check.certify_branchless.Given as goal

abbrev pub invariant-loop-at : goal.invariant-loop-at
invariant-loop-at l = CheckedSoFar l.kind l.expression l.at l.count l.state l.depth l.pieces l.states.items

abbrev pub decreases-loop-at : goal.decreases-loop-at
decreases-loop-at l = l.end - l.at
