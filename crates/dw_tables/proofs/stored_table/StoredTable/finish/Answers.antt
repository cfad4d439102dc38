use Rattle.std.proofs.Common.{arith}
use Rattle.dw_tables.proofs.CompiledTables.{rows-few}
use Rattle.dw_tables.proofs.stored_table.StoredTable.finish.Goals as goal

pub returns-clause-few : goal.returns-clause-few
returns-clause-few c = omega (arith, rows-few c.in_ok-into_sets.field-0 c.args.table.entries 0)
