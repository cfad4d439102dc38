use Rattle.std.proofs.Common.{◌≡◌, ℕ, List, ◌≤◌, ◌-◌, Ok}
use Rattle.dw_bytes.specs.Reading.{MovesForward, offset_at}
use Rattle.dw_bytes.specs.Sequence.{exactly_of}
use Rattle.dw_bytes.proofs.cursor.Cursor.skip_offsets.Given as goal

abbrev pub invariant-loop-read : goal.invariant-loop-read
invariant-loop-read l = record {
  within : l.read ≤ l.count;
  some : (offsets : List ℕ) × (exactly_of (offset_at l.format) l.read l.self ≡ Ok (offsets, l.ahead));
  goes : MovesForward l.self l.ahead;
}

abbrev pub decreases-loop-read : goal.decreases-loop-read
decreases-loop-read l = l.count - l.read
