-- The rules (`RuleOver` and `CfaOver`, Rules.antt) that values of the code's rule types stand for.
use Rattle.std.specs.Prelude.{ℕ, ◌%◌, ℤ, List, map}
use Rattle.dw_rules.specs.Rules.{PlacedRule, PlacedCfa, Rule, Cfa, RuleOver, CfaOver}
use Rattle.dw_stack.specs.Located.{located_of}
use Rattle.dw_rules.specs.declared.row.RegisterRule.{RegisterRule}
use Rattle.dw_rules.specs.declared.row.RegisterRule.TheVariants as given
use Rattle.dw_rules.specs.declared.row.CfaRule.{CfaRule}
use Rattle.dw_rules.specs.declared.row.CfaRule.TheVariants as given_cfas
use Rattle.dw_rules.specs.declared.stored_rule.StoredRule.{StoredRule}
use Rattle.dw_rules.specs.declared.stored_rule.StoredRule.TheVariants as rules
use Rattle.dw_rules.specs.declared.stored_rule.StoredCfa.{StoredCfa}
use Rattle.dw_rules.specs.declared.stored_rule.StoredCfa.TheVariants.{RegisterAndOffset, Expression}
use Rattle.dw_rules.specs.declared.register_rules.RuleEntry.{RuleEntry}
use Rattle.dw_rules.specs.declared.register_rules.RuleKind.{RuleKind}
use Rattle.dw_rules.specs.declared.register_rules.RuleKind.TheVariants as kinds

abbrev pub stored_rule_of : StoredRule → PlacedRule
stored_rule_of rules.Default = RuleOver.default
stored_rule_of rules.Undefined = RuleOver.undefined
stored_rule_of rules.SameValue = RuleOver.same_value
stored_rule_of (rules.Offset n) = RuleOver.offset n
stored_rule_of (rules.ValOffset n) = RuleOver.val_offset n
stored_rule_of (rules.Register r) = RuleOver.register r
stored_rule_of (rules.Expression at) = RuleOver.expression at
stored_rule_of (rules.ValExpression at) = RuleOver.val_expression at

abbrev pub stored_cfa_of : StoredCfa → PlacedCfa
stored_cfa_of (RegisterAndOffset r n) = CfaOver.register_and_offset r n
stored_cfa_of (Expression at) = CfaOver.cfa_expression at

-- The rule that a `RegisterRule`, the type that callers get, stands for. It has the expression
-- itself.
abbrev pub rule_of : RegisterRule → Rule
rule_of given.Default = RuleOver.default
rule_of given.Undefined = RuleOver.undefined
rule_of given.SameValue = RuleOver.same_value
rule_of (given.Offset n) = RuleOver.offset n
rule_of (given.ValOffset n) = RuleOver.val_offset n
rule_of (given.Register r) = RuleOver.register r
rule_of (given.Expression at e) = RuleOver.expression (located_of (at, e))
rule_of (given.ValExpression at e) = RuleOver.val_expression (located_of (at, e))

abbrev pub cfa_rule_of : CfaRule → Cfa
cfa_rule_of (given_cfas.RegisterAndOffset r n) = CfaOver.register_and_offset r n
cfa_rule_of (given_cfas.Expression at e) = CfaOver.cfa_expression (located_of (at, e))

-- a register with the rule that a `RegisterRule` stands for
abbrev pub numbered_rule_of : ℕ × RegisterRule → ℕ × Rule
numbered_rule_of x = (x.0, rule_of x.1)

-- the rule that the fields `kind`, `offset` and `number` of a `RuleEntry` stand for
abbrev pub rule_by_kind : RuleKind → ℤ → ℕ → PlacedRule
rule_by_kind kinds.Default offset number = RuleOver.default
rule_by_kind kinds.Undefined offset number = RuleOver.undefined
rule_by_kind kinds.SameValue offset number = RuleOver.same_value
rule_by_kind kinds.Offset offset number = RuleOver.offset offset
rule_by_kind kinds.ValOffset offset number = RuleOver.val_offset offset
rule_by_kind kinds.Register offset number = RuleOver.register (number % 65536)
rule_by_kind kinds.Expression offset number = RuleOver.expression number
rule_by_kind kinds.ValExpression offset number = RuleOver.val_expression number

abbrev pub rule_by : RuleEntry → PlacedRule
rule_by e = rule_by_kind e.kind e.offset e.number

abbrev pub entry_of : RuleEntry → ℕ × PlacedRule
entry_of e = (e.register, rule_by e)

abbrev pub entries_of : List RuleEntry → List (ℕ × PlacedRule)
entries_of entries = map entry_of entries
