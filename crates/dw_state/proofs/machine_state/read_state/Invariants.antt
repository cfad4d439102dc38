use Rattle.std.proofs.Common.{◌≤◌, ◌+◌, List, ℕ, length}
use Rattle.dw_state.specs.StateFile.{facts_of_lines, IsGivenBy}
use Rattle.dw_state.specs.StateViews.{known_state_of}
use Rattle.dw_state.proofs.StateLines.{Reading}
use Rattle.dw_state.proofs.machine_state.read_state.Given as goal

abbrev pub invariant-loop-line : goal.invariant-loop-line
invariant-loop-line l = record {
  count : l.number + length l.line-iterator ≤ length l.text + 1;
  given : (before : List (List ℕ)) × IsGivenBy (known_state_of l.state) (facts_of_lines l.target before)
      × Reading l.target l.text before l.number l.line-iterator;
}
