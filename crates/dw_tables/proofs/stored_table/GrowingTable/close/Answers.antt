use Rattle.dw_tables.specs.CompiledTable.{no_set, IsPushed}
use Rattle.dw_tables.proofs.TableRows.{closed-pushed}
use Rattle.dw_tables.proofs.stored_table.GrowingTable.close.Goals as goal

pub returns-clause-closed : goal.returns-clause-closed
returns-clause-closed c =
    let end = c.args.self.now.end in
    let old = c.args.self.now.entries in
    let new = c.push.new.self in
    let old_sets = c.args.self.now.numbers.sets in
    let new_sets = c.choose_empty.new.self.sets in
    let pushed : IsPushed old old_sets end no_set new new_sets =
    record { number = c.in_ok-set.set; entries = c.in_ok-push.ensures; numbered = c.in_ok-set.ensures.number } in
    closed-pushed end old new old_sets new_sets pushed
