use Rattle.std.proofs.Common.{◌≡◌, ◌+◌, length}
use Rattle.dw_tables.proofs.table_entries.blocks_of.Given as goal

abbrev pub invariant-loop : goal.invariant-loop
invariant-loop l = length l.counts.items ≡ l.counter

abbrev pub invariant-loop-offset : goal.invariant-loop-offset
invariant-loop-offset l = (length l.counts.items ≡ l.limit + 1) × (l.count ≡ l.offset-index)
