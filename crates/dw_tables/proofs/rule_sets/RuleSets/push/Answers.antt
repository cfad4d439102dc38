use Rattle.std.proofs.Common.{◌≡◌, ℕ, List, [], ◌∷◌, ◌++◌, ap, ◌∙◌}
use Rattle.dw_rules.specs.RuleSet.{StoredRules}
use Rattle.dw_tables.specs.CompiledTable.{StoredSet, zipped}
use Rattle.dw_tables.proofs.RuleSets.{zipped-more}
use Rattle.dw_tables.proofs.rule_sets.RuleSets.push.Goals as goal

pub returns-in-Ok : goal.returns-in-Ok
returns-in-Ok c =
    let rules = c.self.inside.rules in
    let registers = c.self.inside.registers.items in
    let more_registers : c.push.new.self.items ≡ registers ++ c.args.register ∷ [] = c.in_ok-push.ensures.items in
    let more_rules : c.push-2.new.self ≡ rules ++ c.args.rules.now ∷ [] = c.in-Ok.ensures in
    let one : StoredSet = record { rules = c.args.rules.now; register = c.args.register } in
    ap (λ (l : List StoredRules). zipped l c.push.new.self.items) more_rules
    ∙ ap (λ (l : List ℕ). zipped (rules ++ c.args.rules.now ∷ []) l) more_registers
    ∙ zipped-more rules registers c.args.rules.now c.args.register c.self.invariant
    ∙ ap (λ (l : List StoredSet). l ++ one ∷ []) c.self.view_is
