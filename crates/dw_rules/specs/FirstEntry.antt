-- The rules of two tables taken together, where the first table has precedence.
use Rattle.std.specs.Prelude.{◌≡◌, ℕ, List, ◌∷◌}
use Rattle.dw_rules.specs.Abi.{or_rule}
use Rattle.dw_rules.specs.Rules.{RuleOver, PlacedRule, IsTable, rule_in, rule_list}
use Rattle.dw_rules.specs.RowsWithExpressions.{LendsEntry, LendsEach}
use Rattle.dw_stack.specs.Located.{LocatedExpression}

-- the rule of register r in the first table, or, if that is default, in the second table
abbrev pub rule_of_either : {E : Type 0} → List (ℕ × RuleOver E) → List (ℕ × RuleOver E) → ℕ → RuleOver E
rule_of_either rules others r = or_rule (rule_in rules r) (rule_in others r)

-- each register that has a rule other than default in either table, with its rule, in ascending
-- order of registers
abbrev pub rules_of_either : {E : Type 0} → List (ℕ × RuleOver E) → List (ℕ × RuleOver E) → List (ℕ × RuleOver E)
rules_of_either rules others = rule_list (rule_of_either rules others)

-- `entry` is the first of the rules of both tables taken together, and `left` and `left_others`
-- taken together have all later rules. If each expression that either table refers to is among
-- `es`, so is each expression that `entry`, `left` or `left_others` refers to.
pub record IsLowest (entries others : List (ℕ × PlacedRule)) (entry : ℕ × PlacedRule)
    (left left_others : List (ℕ × PlacedRule)) : Type 0 where
  pub first : rules_of_either entries others ≡ entry ∷ rules_of_either left left_others
  pub table : IsTable 0 left
  pub other_table : IsTable 0 left_others
  pub each : (es : List LocatedExpression) → LendsEach es entries → LendsEach es others
      → LendsEntry es entry × LendsEach es left × LendsEach es left_others
