use Rattle.std.proofs.Common.{sym, subst}
use Rattle.dw_rules.specs.RowExpressions.{row_expressions}
use Rattle.dw_rules.specs.RowsWithExpressions.{LendsRule}
use Rattle.dw_rules.proofs.row.RegisterRulesIterator.next.Goals as goal

pub rule_with_expressions-rule-requires : goal.rule_with_expressions-rule-requires
rule_with_expressions-rule-requires c =
    let es = row_expressions c.self.inside.expressions in
    subst (LendsRule es) (sym c.rule_of_entry.ensures) (c.in_ok-entry.ensures.each es c.self.invariant.2 c.self.invariant.3).0
