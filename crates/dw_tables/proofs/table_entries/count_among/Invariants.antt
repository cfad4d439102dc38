use Rattle.std.proofs.Common.{◌≤◌}
use Rattle.dw_tables.proofs.table_entries.count_among.Given as goal

abbrev pub invariant-loop-start : goal.invariant-loop-start
invariant-loop-start l = l.count ≤ l.start-index
