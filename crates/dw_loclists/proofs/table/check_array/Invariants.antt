use Rattle.std.proofs.Common.{◌≡◌, ℕ, List, ◌≤◌, ◌-◌, Ok, map}
use Rattle.dw_bytes.specs.Reading.{MovesForward}
use Rattle.dw_bytes.specs.Sequence.{exactly_of}
use Rattle.dw_loclists.specs.Reading.{list_offset_at}
use Rattle.dw_loclists.specs.Views.{start_of}
use Rattle.dw_loclists.proofs.table.check_array.Given as goal

abbrev pub invariant-offsets : goal.invariant-offsets
invariant-offsets l = record {
  within : l.read ≤ l.count;
  some : (offsets : List ℕ) × (exactly_of (list_offset_at l.format l.fn.cursor.position (map start_of l.lists)) l.read l.fn.cursor ≡ Ok
      (offsets, l.cursor));
  goes : MovesForward l.fn.cursor l.cursor;
}

abbrev pub decreases-offsets : goal.decreases-offsets
decreases-offsets l = l.count - l.read
