-- Rows as callers get them: with the expressions themselves, where programs only have the
-- expressions' offsets in the section.
use Rattle.std.specs.Prelude.{◌≡◌, ℕ, List, [], map, Option, Some, None, All}
use Rattle.std.specs.Option.{option_map}
use Rattle.dw_bytes.specs.declared.target.Order.TheVariants.{Little}
use Rattle.dw_bytes.specs.declared.target.AddressSize.TheVariants.{Four}
use Rattle.dw_stack.specs.declared.state.Kind.{Kind}
use Rattle.dw_stack.specs.declared.state.Kind.TheVariants.{FrameCfa, FrameRegister}
use Rattle.dw_stack.specs.Located.{LocatedExpression}
use Rattle.dw_rules.specs.Expressions.{expression_at}
use Rattle.dw_rules.specs.Rules.{PlacedRule, PlacedCfa, PlacedRow, Rule, Cfa, Row, default, undefined, same_value, offset, val_offset}
use Rattle.dw_rules.specs.Rules.{register, expression, val_expression, register_and_offset, cfa_expression}

-- A placeholder that `located_at` gives for an offset at which no expression begins. No rule of an
-- accepted section refers to such an offset.
abbrev pub nowhere : LocatedExpression
nowhere = record { offset = 0; kind = FrameCfa; target = record { order = Little; address_size = Four }; bytes = [] }

abbrev pub or_nowhere : Option LocatedExpression → LocatedExpression
or_nowhere None = nowhere
or_nowhere (Some e) = e

-- the expression in the list that begins at the offset `at`
abbrev pub located_at : List LocatedExpression → ℕ → LocatedExpression
located_at expressions at = or_nowhere (expression_at expressions at)

-- a rule, with the expression in place of its offset
abbrev pub rule_with_expressions : List LocatedExpression → PlacedRule → Rule
rule_with_expressions expressions default = default
rule_with_expressions expressions undefined = undefined
rule_with_expressions expressions same_value = same_value
rule_with_expressions expressions (offset n) = offset n
rule_with_expressions expressions (val_offset n) = val_offset n
rule_with_expressions expressions (register r) = register r
rule_with_expressions expressions (expression at) = expression (located_at expressions at)
rule_with_expressions expressions (val_expression at) = val_expression (located_at expressions at)

abbrev pub cfa_with_expressions : List LocatedExpression → PlacedCfa → Cfa
cfa_with_expressions expressions (register_and_offset r n) = register_and_offset r n
cfa_with_expressions expressions (cfa_expression at) = cfa_expression (located_at expressions at)

abbrev pub given_entry : List LocatedExpression → ℕ × PlacedRule → ℕ × Rule
given_entry expressions entry = (entry.0, rule_with_expressions expressions entry.1)

abbrev pub rules_with_expressions : List LocatedExpression → List (ℕ × PlacedRule) → List (ℕ × Rule)
rules_with_expressions expressions rules = map (given_entry expressions) rules

abbrev pub row_with_expressions : List LocatedExpression → PlacedRow → Row
row_with_expressions expressions row = record {
  start = row.start;
  end = row.end;
  cfa = option_map (cfa_with_expressions expressions) row.cfa;
  rules = rules_with_expressions expressions row.rules;
}

-- ---- each expression has the kind that its rule needs

abbrev pub IsOfKind : Kind → LocatedExpression → Type 0
IsOfKind kind e = e.kind ≡ kind

abbrev pub IsRuleOfKind : Rule → Type 0
IsRuleOfKind (expression e) = IsOfKind FrameRegister e
IsRuleOfKind (val_expression e) = IsOfKind FrameRegister e
IsRuleOfKind _ = Unit {0}

abbrev pub IsCfaOfKind : Cfa → Type 0
IsCfaOfKind (cfa_expression e) = IsOfKind FrameCfa e
IsCfaOfKind _ = Unit {0}

abbrev pub IsEntryOfKind : ℕ × Rule → Type 0
IsEntryOfKind entry = IsRuleOfKind entry.1

-- ---- each expression that a rule refers to is in a list of expressions

-- an expression in the list begins at the offset `at`, and has the kind `kind`
pub record IsLent (expressions : List LocatedExpression) (kind : Kind) (at : ℕ) : Type 0 where
  pub lent : LocatedExpression
  pub found : expression_at expressions at ≡ Some lent
  pub of_kind : IsOfKind kind lent

abbrev pub LendsRule : List LocatedExpression → PlacedRule → Type 0
LendsRule expressions (expression at) = IsLent expressions FrameRegister at
LendsRule expressions (val_expression at) = IsLent expressions FrameRegister at
LendsRule expressions _ = Unit {0}

abbrev pub LendsCfa : List LocatedExpression → PlacedCfa → Type 0
LendsCfa expressions (cfa_expression at) = IsLent expressions FrameCfa at
LendsCfa expressions _ = Unit {0}

abbrev pub LendsEntry : List LocatedExpression → ℕ × PlacedRule → Type 0
LendsEntry expressions entry = LendsRule expressions entry.1

abbrev pub LendsEach : List LocatedExpression → List (ℕ × PlacedRule) → Type 0
LendsEach expressions rules = All (LendsEntry expressions) rules
