use Rattle.std.proofs.Common.{◌≡◌, List, length, Some, sym, subst, ap, arith}
use Rattle.std.specs.Prelude.{slice_get}
use Rattle.std.specs.Option.{option_map}
use Rattle.std.proofs.lemmas.Option.{get_or_from_slice_get}
use Rattle.dw_rules.specs.RuleSet.{StoredRules}
use Rattle.dw_rules.specs.Views.{stored_cfa_of, entries_of}
use Rattle.dw_tables.specs.CompiledTable.{StoredSet}
use Rattle.dw_tables.proofs.RuleSets.{zipped-length, zipped-at}
use Rattle.dw_tables.proofs.rule_sets.RuleSets.lend.Goals as goal

pub lend-requires : goal.lend-requires
lend-requires c =
    omega (
      arith,
      c.requires,
      c.self.invariant,
      zipped-length c.self.inside.rules c.self.inside.registers.items c.self.invariant,
      ap (λ (l : List StoredSet). length l) c.self.view_is,
    )

pub index-requires : goal.index-requires
index-requires c =
    omega (
      arith,
      c.requires,
      c.self.inside.registers.ok.0,
      zipped-length c.self.inside.rules c.self.inside.registers.items c.self.invariant,
      ap (λ (l : List StoredSet). length l) c.self.view_is,
    )

pub returns-clause-rules : goal.returns-clause-rules
returns-clause-rules c =
    let k : StoredRules = record { cfa = option_map stored_cfa_of c.lend.result.cfa; rules = entries_of c.lend.result.entries.now } in
    subst (λ (l : List StoredSet). slice_get l c.args.place ≡ Some (record { rules = k; register = c.index.result.now })) c.self.view_is
    (zipped-at c.self.inside.rules c.self.inside.registers.items c.args.place k c.index.result.now c.self.invariant
    (omega (
      arith,
      c.requires,
      c.self.invariant,
      zipped-length c.self.inside.rules c.self.inside.registers.items c.self.invariant,
      ap (λ (l : List StoredSet). length l) c.self.view_is,
    )) (sym (get_or_from_slice_get c.self.inside.rules c.args.place k k c.lend.ensures.rules)) c.index.ensures)
