use Rattle.std.proofs.Common.{◌≡◌, ◌-◌}
use Rattle.dw_bytes.specs.Reading.{MovesForward}
use Rattle.dw_loclists.proofs.Passing.{SoFar}
use Rattle.dw_loclists.proofs.list.read_list.Given as goal

abbrev pub invariant-entries : goal.invariant-entries
invariant-entries l = record {
  so_far : SoFar l.fn.cursor l.fn.expressions.items l.has_default l.ahead l.expressions.items;
  same : l.cursor ≡ l.fn.cursor;
  goes : MovesForward l.fn.cursor l.ahead;
}

abbrev pub decreases-entries : goal.decreases-entries
decreases-entries l = l.end - l.ahead.position
