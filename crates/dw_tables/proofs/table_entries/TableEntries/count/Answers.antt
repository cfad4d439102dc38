use Rattle.std.proofs.Common.{List, length, arith, ap}
use Rattle.dw_tables.specs.declared.table_entries.TableEntry.{TableEntry}
use Rattle.dw_tables.proofs.TableEntries.{paired-length}
use Rattle.dw_tables.proofs.table_entries.TableEntries.count.Goals as goal

pub returns : goal.returns
returns c =
    omega (
      arith,
      c.count.ensures,
      paired-length c.self.inside.starts c.self.inside.sets c.self.invariant.even,
      ap (λ (l : List TableEntry). length l) c.self.view_is,
    )
