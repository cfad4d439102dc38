use Rattle.std.proofs.Common.{subst}
use Rattle.dw_tables.specs.CompiledTable.{HasFaulty}
use Rattle.dw_tables.proofs.CountedRows.{no-faulty}
use Rattle.dw_tables.proofs.FilledTables.{placed-as}
use Rattle.dw_tables.proofs.stored_table.StoredTable.of.Goals as goal

pub unreachable-requires : goal.unreachable-requires
unreachable-requires c =
    no-faulty c.args.frame.now c.listed.ensures.checked
    (subst HasFaulty c.listed.ensures.listed (rw c.in-None.is at c.in_ok-table.ensures.refused))

pub returns-clause-rows : goal.returns-clause-rows
returns-clause-rows c =
    placed-as c.args.frame.now c.listed.result.now _ c.in_ok-finish-in-Some.field-0.rows c.listed.ensures.listed c.listed.ensures.checked
    (rw c.in-Some.is at c.in_ok-table.ensures.rows) c.in_ok-finish-in-Some.ensures.rows
