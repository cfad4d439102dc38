use Rattle.std.proofs.Common.{List, length, arith, ap}
use Rattle.dw_tables.specs.CompiledTable.{StoredSet}
use Rattle.dw_tables.proofs.RuleSets.{zipped-length}
use Rattle.dw_tables.proofs.rule_sets.RuleSets.count.Goals as goal

pub returns : goal.returns
returns c =
    omega (
      arith,
      c.len.ensures,
      c.self.inside.registers.ok.0,
      zipped-length c.self.inside.rules c.self.inside.registers.items c.self.invariant,
      ap (λ (l : List StoredSet). length l) c.self.view_is,
    )
