use Rattle.std.proofs.Common.{◌≡◌, List, length, ap, subst, arith}
use Rattle.dw_tables.specs.CompiledTable.{StoredSet, set_numbered}
use Rattle.dw_tables.proofs.RuleSets.{zipped-length, zipped-register}
use Rattle.dw_tables.proofs.rule_sets.RuleSets.register_at.Goals as goal

pub index-requires : goal.index-requires
index-requires c =
    omega (
      arith,
      c.requires,
      c.self.inside.registers.ok.0,
      zipped-length c.self.inside.rules c.self.inside.registers.items c.self.invariant,
      ap (λ (l : List StoredSet). length l) c.self.view_is,
    )

pub returns : goal.returns
returns c =
    subst (λ (l : List StoredSet). (set_numbered l c.args.place).register ≡ c.index.result.now) c.self.view_is
    (zipped-register c.self.inside.rules c.self.inside.registers.items c.args.place c.index.result.now c.self.invariant
    (omega (
      arith,
      c.requires,
      zipped-length c.self.inside.rules c.self.inside.registers.items c.self.invariant,
      ap (λ (l : List StoredSet). length l) c.self.view_is,
    )) c.index.ensures)
