use Rattle.dw_tables.proofs.CompiledTables.{tables-fit, tables-same}
use Rattle.dw_tables.proofs.laws.tables_of_sections.Goals as goal

pub returns : goal.returns
returns c = record { fit = tables-fit; same = tables-same }
