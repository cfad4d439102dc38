use Rattle.std.proofs.Common.{◌-◌, ◌<◌}
use Rattle.dw_tables.proofs.table_entries.block_shift.Given as goal

abbrev pub invariant-loop-shift : goal.invariant-loop-shift
invariant-loop-shift l = l.shift < 64

abbrev pub decreases-loop-shift : goal.decreases-loop-shift
decreases-loop-shift l = 64 - l.shift
