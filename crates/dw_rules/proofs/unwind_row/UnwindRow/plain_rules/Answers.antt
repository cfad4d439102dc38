use Rattle.std.proofs.Common.{◌≡◌, ◌∙◌, List, ap, map, subst, sym, ℕ}
use Rattle.dw_rules.specs.RowsWithExpressions.{rules_with_expressions}
use Rattle.dw_rules.specs.RowExpressions.{row_expressions}
use Rattle.dw_rules.specs.Rules.{IsTable, Row, Rule}
use Rattle.dw_rules.specs.SavedRules.{Saved, as_saved}
use Rattle.dw_rules.specs.Views.{entries_of}
use Rattle.dw_rules.proofs.RulesWithExpressions.{table-with}
use Rattle.dw_rules.proofs.SavedRules.{if-some, saved-given}
use Rattle.dw_rules.proofs.unwind_row.UnwindRow.plain_rules.Goals as goal

pub returns-clause-rules : goal.returns-clause-rules
returns-clause-rules c =
    let es = row_expressions c.self.inside.expressions in
    if-some c.of.result (λ (plain : List Saved). entries_of c.self.inside.rules.now ≡ map as_saved plain)
    (λ (plain : List Saved). c.args.self.now.rules ≡ map as_saved plain)
    (λ plain is. sym (ap (λ (row : Row). row.rules) c.self.view_is) ∙ ap (rules_with_expressions es) is ∙ saved-given es plain) c.of.ensures.rules

pub returns-clause-ascending : goal.returns-clause-ascending
returns-clause-ascending c =
    subst (λ (rules : List (ℕ × Rule)). IsTable 0 rules) (ap (λ (row : Row). row.rules) c.self.view_is)
    (table-with (row_expressions c.self.inside.expressions) 0 (entries_of c.self.inside.rules.now) c.self.invariant.2)

-- the same if the rules are known to be plain
pub returns-then-self-limit-clause-rules : goal.returns-then-self-limit-clause-rules
returns-then-self-limit-clause-rules c =
    let es = row_expressions c.self.inside.expressions in
    sym (ap (λ (row : Row). row.rules) c.self.view_is) ∙ ap (rules_with_expressions es) c.known.ensures.rules ∙ saved-given es c.known.result

pub returns-then-self-limit-clause-ascending : goal.returns-then-self-limit-clause-ascending
returns-then-self-limit-clause-ascending c =
    subst (λ (rules : List (ℕ × Rule)). IsTable 0 rules) (ap (λ (row : Row). row.rules) c.self.view_is)
    (table-with (row_expressions c.self.inside.expressions) 0 (entries_of c.self.inside.rules.now) c.self.invariant.2)
