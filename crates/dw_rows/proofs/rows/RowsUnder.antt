-- The expressions in the rows of a checked section have its target.
use Rattle.std.proofs.Common.{◌≡◌, ℕ}
use Rattle.std.proofs.Common.{Option, Some, None}
use Rattle.std.specs.Prelude.{IfSome}
use Rattle.dw_rules.specs.Rules.{Rule, Cfa, Row, default, undefined, same_value, offset, val_offset, register}
use Rattle.dw_rules.specs.Rules.{expression, val_expression, register_and_offset, cfa_expression}
use Rattle.dw_rows.specs.GoodRows.{IsGoodRule, IsGoodCfa}
use Rattle.dw_rows.specs.RowLookups.{IsRuleUnder, IsCfaUnder, IsRowUnder}
use Rattle.dw_rows.specs.Section.{FrameSection, IsChecked, row_of}
use Rattle.dw_rows.proofs.rows.GoodRows.{found-good}
use Rattle.dw_rows.proofs.expressions.GoodExpressions.{checked-expressions}

good-rule-under : (s : FrameSection) → IsChecked s → (x : Rule) → IsGoodRule s.expressions x → IsRuleUnder s.target x
good-rule-under s k (expression e) h = (checked-expressions s k e h.among).1
good-rule-under s k (val_expression e) h = (checked-expressions s k e h.among).1
good-rule-under s k default h = tt
good-rule-under s k undefined h = tt
good-rule-under s k same_value h = tt
good-rule-under s k (offset n) h = tt
good-rule-under s k (val_offset n) h = tt
good-rule-under s k (register r) h = tt

good-cfa-under : (s : FrameSection) → IsChecked s → (x : Option Cfa) → IfSome x (IsGoodCfa s.expressions)
    → IfSome x (IsCfaUnder s.target)
good-cfa-under s k None h = tt
good-cfa-under s k (Some (cfa_expression e)) h = (checked-expressions s k e h.among).1
good-cfa-under s k (Some (register_and_offset r n)) h = tt

pub section-row-under : (s : FrameSection) (a : ℕ) (row : Row) → IsChecked s → row_of s a ≡ Some row → IsRowUnder s.target row
section-row-under s a row k found =
    let good = found-good s a k row found in record {
      cfa = good-cfa-under s k row.cfa good.cfa;
      rules = λ i d lt. good-rule-under s k _ (good.rules i d lt);
    }
