use Rattle.std.proofs.Common.{◌-◌, ◌<◌, ◌≤◌, length}
use Rattle.dw_stack.specs.Paths.{place}
use Rattle.dw_stack.specs.Views.{placed_in}
use Rattle.dw_stack.proofs.target.place_at_target.Given as goal

abbrev pub invariant-loop-low : goal.invariant-loop-low
invariant-loop-low l = record {
  after : l.from < l.low;
  within : l.low ≤ l.high;
  top : l.high ≤ length l.operations;
  below : place (placed_in l.operations) l.end (l.low - 1) < l.target;
  above : l.high < length l.operations → l.target ≤ place (placed_in l.operations) l.end l.high;
}

abbrev pub decreases-loop-low : goal.decreases-loop-low
decreases-loop-low l = l.high - l.low
