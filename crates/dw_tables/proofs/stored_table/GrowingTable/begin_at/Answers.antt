use Rattle.dw_tables.proofs.TableRows.{begun-past}
use Rattle.dw_tables.proofs.stored_table.GrowingTable.begin_at.Goals as goal

pub returns-clause-begun : goal.returns-clause-begun
returns-clause-begun c =
    begun-past c.args.self.now.end c.args.start c.args.self.now.entries c.close.new.self.entries c.args.self.now.numbers.sets
    c.close.new.self.numbers.sets c.in_ok-close.ensures.closed
