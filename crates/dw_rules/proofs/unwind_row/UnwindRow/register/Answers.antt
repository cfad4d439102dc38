use Rattle.std.proofs.Common.{subst, sym, ap, ◌∙◌}
use Rattle.dw_rules.specs.Rules.{Row, rule_in}
use Rattle.dw_rules.specs.RowsWithExpressions.{rule_with_expressions, LendsRule, IsRuleOfKind}
use Rattle.dw_rules.specs.RowExpressions.{row_expressions}
use Rattle.dw_rules.specs.Views.{entries_of}
use Rattle.dw_rules.proofs.RulesWithExpressions.{rule_in-with, lends-rule_in, rule-of-kind}
use Rattle.dw_rules.proofs.unwind_row.UnwindRow.register.Goals as goal

pub rule_with_expressions-requires : goal.rule_with_expressions-requires
rule_with_expressions-requires c =
    let es = row_expressions c.self.inside.expressions in
    subst (LendsRule es) (sym c.rule_of_register.ensures) (lends-rule_in es (entries_of c.self.inside.rules.now) c.args.number c.self.invariant.1)

pub returns-clause-rule : goal.returns-clause-rule
returns-clause-rule c =
    let es = row_expressions c.self.inside.expressions in
    c.rule_with_expressions.ensures ∙ ap (rule_with_expressions es) c.rule_of_register.ensures
    ∙ sym (rule_in-with es (entries_of c.self.inside.rules.now) c.args.number)
    ∙ ap (λ (row : Row). rule_in row.rules c.args.number) c.self.view_is

pub returns-clause-kind : goal.returns-clause-kind
returns-clause-kind c =
    let es = row_expressions c.self.inside.expressions in
    let rules = entries_of c.self.inside.rules.now in
    let lends : LendsRule es (rule_in rules c.args.number) = lends-rule_in es rules c.args.number c.self.invariant.1 in
    subst IsRuleOfKind (sym (c.rule_with_expressions.ensures ∙ ap (rule_with_expressions es) c.rule_of_register.ensures))
    (rule-of-kind es (rule_in rules c.args.number) lends)
