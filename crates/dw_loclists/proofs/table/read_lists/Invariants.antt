use Rattle.std.proofs.Common.{◌≡◌, List, ◌-◌}
use Rattle.dw_bytes.specs.Reading.{MovesForward}
use Rattle.dw_loclists.specs.Lists.{Loclist}
use Rattle.dw_loclists.specs.Reading.{lists_at}
use Rattle.dw_loclists.specs.Stored.{KeepsLists}
use Rattle.dw_loclists.proofs.EachTable.{put_lists}
use Rattle.dw_loclists.proofs.table.read_lists.Given as goal

abbrev pub invariant-lists : goal.invariant-lists
invariant-lists l = record {
  so_far : (lists : List Loclist) × (lists_at l.fn.cursor ≡ put_lists lists (lists_at l.cursor)) ×
      KeepsLists lists l.fn.contents l.contents;
  goes : MovesForward l.fn.cursor l.cursor;
}

abbrev pub decreases-lists : goal.decreases-lists
decreases-lists l = l.end - l.cursor.position
