use Rattle.std.proofs.Common.{◌-◌}
use Rattle.dw_stack.proofs.paths.Unbranched.{CheckedAlone}
use Rattle.dw_stack.proofs.branchless_check.check_branchless.Given as goal

abbrev pub invariant-loop-at : goal.invariant-loop-at
invariant-loop-at l = CheckedAlone l.kind l.expression l.at l.count l.state l.depth l.pieces

abbrev pub decreases-loop-at : goal.decreases-loop-at
decreases-loop-at l = l.end - l.at
