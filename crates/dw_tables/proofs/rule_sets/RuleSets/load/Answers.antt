use Rattle.std.proofs.Common.{◌≡◌, List, [], length, sym, ap, ◌∙◌, arith}
use Rattle.dw_rules.specs.ProgramState.{ProgramState}
use Rattle.dw_tables.specs.CompiledTable.{StoredSet}
use Rattle.dw_tables.specs.NumberedPrograms.{rules_at}
use Rattle.dw_tables.proofs.RuleSets.{zipped-length, zipped-rules}
use Rattle.dw_tables.proofs.rule_sets.RuleSets.load.Goals as goal

pub set_initial_rules-requires : goal.set_initial_rules-requires
set_initial_rules-requires c =
    omega (
      arith,
      c.requires.from,
      c.self.invariant,
      zipped-length c.self.inside.rules c.self.inside.registers.items c.self.invariant,
      ap (λ (l : List StoredSet). length l) c.self.view_is,
    )

pub set_initial_rules-requires-2 : goal.set_initial_rules-requires-2
set_initial_rules-requires-2 c =
    omega (
      arith,
      c.requires.first,
      c.self.invariant,
      zipped-length c.self.inside.rules c.self.inside.registers.items c.self.invariant,
      ap (λ (l : List StoredSet). length l) c.self.view_is,
    )

pub returns : goal.returns
returns c =
    let rules = c.self.inside.rules in
    let registers = c.self.inside.registers.items in
    let from = zipped-rules rules registers c.args.from _ c.self.invariant c.set_initial_rules.ensures.first in
    let first = zipped-rules rules registers c.args.first _ c.self.invariant c.set_initial_rules-2.ensures.first in
    let is = c.self.view_is in
    let at_from : rules_at c.args.self.now c.args.from ≡ c.set_initial_rules.new.self.initial_rules =
    ap (λ (l : List StoredSet). rules_at l c.args.from) (sym is) ∙ from in
    let at_first : rules_at c.args.self.now c.args.first ≡ c.set_initial_rules-2.new.self.initial_rules =
    ap (λ (l : List StoredSet). rules_at l c.args.first) (sym is) ∙ first in
    c.set_initial_rules-2.ensures.rest
    ∙ ap (λ (m : ProgramState). record m { initial_rules = c.set_initial_rules-2.new.self.initial_rules }) c.begin.ensures
    ∙ (λ i. record { initial_rules = sym at_first i; location = 0; current = sym at_from i; remembered = [] })
