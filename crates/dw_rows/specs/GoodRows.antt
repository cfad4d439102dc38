-- Rows whose expressions are good, each as an expression of the kind that its rule needs (DWARF 5,
-- sections 6.4.2.2 and 6.4.2.3).
use Rattle.std.specs.Prelude.{ℕ, List, All, IfSome, Contains}
use Rattle.dw_stack.specs.declared.state.Kind.{Kind}
use Rattle.dw_stack.specs.declared.state.Kind.TheVariants.{FrameCfa, FrameRegister}
use Rattle.dw_stack.specs.Expressions.{IsGoodExpression}
use Rattle.dw_stack.specs.Located.{LocatedExpression}
use Rattle.dw_rules.specs.Rules.{Rule, Cfa, Row, expression, val_expression, cfa_expression}
use Rattle.dw_rules.specs.RowsWithExpressions.{IsOfKind}

-- The expression `e` is one of a section's expressions, has the kind `kind`, and is good.
pub record IsGoodAmong (expressions : List LocatedExpression) (kind : Kind) (e : LocatedExpression) : Type 0 where
  pub among : Contains expressions e
  pub of_kind : IsOfKind kind e
  pub good : IsGoodExpression e.kind e.target e.bytes

-- if a register's rule has an expression, that expression is good, and one of the section's
abbrev pub IsGoodRule : List LocatedExpression → Rule → Type 0
IsGoodRule expressions (expression e) = IsGoodAmong expressions FrameRegister e
IsGoodRule expressions (val_expression e) = IsGoodAmong expressions FrameRegister e
IsGoodRule expressions _ = Unit {0}

-- if the CFA's rule has an expression, that expression is good, and one of the section's
abbrev pub IsGoodCfa : List LocatedExpression → Cfa → Type 0
IsGoodCfa expressions (cfa_expression e) = IsGoodAmong expressions FrameCfa e
IsGoodCfa expressions _ = Unit {0}

abbrev pub IsGoodEntry : List LocatedExpression → ℕ × Rule → Type 0
IsGoodEntry expressions entry = IsGoodRule expressions entry.1

-- each expression in the row is good, and one of the section's
pub record HasGoodExpressions (expressions : List LocatedExpression) (row : Row) : Type 0 where
  pub cfa : IfSome row.cfa (IsGoodCfa expressions)
  pub rules : All (IsGoodEntry expressions) row.rules
