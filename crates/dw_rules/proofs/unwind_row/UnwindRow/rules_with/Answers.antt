use Rattle.std.proofs.Common.{◌≡◌, length, ap, ◌∙◌, subst, arith}
use Rattle.std.specs.Prelude.{All}
use Rattle.dw_rules.specs.Abi.{rules_under}
use Rattle.dw_rules.specs.AbiViews.{roles_of}
use Rattle.dw_rules.specs.FirstEntry.{rules_of_either}
use Rattle.dw_rules.specs.Rules.{Row}
use Rattle.dw_rules.specs.RowsWithExpressions.{IsEntryOfKind, LendsEach, rules_with_expressions}
use Rattle.dw_rules.specs.RowExpressions.{row_expressions}
use Rattle.dw_rules.specs.Views.{entries_of}
use Rattle.dw_rules.proofs.Edits.{length-entries_of}
use Rattle.dw_rules.proofs.RulesWithExpressions.{kinds-with, length-with}
use Rattle.dw_rules.proofs.Under.{either-with, lends-either, few-of-either, roles-lend}
use Rattle.dw_rules.proofs.Tables.{IsTable-rule_list}
use Rattle.dw_rules.proofs.unwind_row.UnwindRow.rules_with.Goals as goal

pub returns-clause-rules : goal.returns-clause-rules
returns-clause-rules c =
    let es = row_expressions c.self.inside.expressions in
    let others = entries_of c.as_slice.result.now in
    either-with es (entries_of c.self.inside.rules.now) others (roles_of c.args.abi.now) c.as_slice.ensures.rules
    ∙ ap (λ (row : Row). rules_under (roles_of c.args.abi.now) row.rules) c.self.view_is

pub returns-clause-ascending : goal.returns-clause-ascending
returns-clause-ascending c = IsTable-rule_list _

pub returns-clause-few : goal.returns-clause-few
returns-clause-few c =
    let es = row_expressions c.self.inside.expressions in
    let own = entries_of c.self.inside.rules.now in
    let others = entries_of c.as_slice.result.now in
    let is : rules_with_expressions es (rules_of_either own others) ≡ rules_under (roles_of c.args.abi.now) c.args.self.now.rules =
    returns-clause-rules c in
    omega (
      arith,
      ap length is,
      length-with es (rules_of_either own others),
      few-of-either own others c.self.invariant.2 c.as_slice.ensures.table,
      length-entries_of c.self.inside.rules.now,
      length-entries_of c.as_slice.result.now,
      c.self.invariant.3,
      c.as_slice.ensures.few,
    )

pub returns-clause-kinds : goal.returns-clause-kinds
returns-clause-kinds c =
    let es = row_expressions c.self.inside.expressions in
    let own = entries_of c.self.inside.rules.now in
    let others = entries_of c.as_slice.result.now in
    let other_lends : LendsEach es others =
    roles-lend es others (roles_of c.args.abi.now) c.as_slice.ensures.table c.as_slice.ensures.rules in
    subst (All IsEntryOfKind) (returns-clause-rules c)
    (kinds-with es (rules_of_either own others) (lends-either es own others c.self.invariant.1 other_lends))

pub invariant_of-result : goal.invariant_of-result
invariant_of-result c =
    let es = row_expressions c.self.inside.expressions in
    let others = entries_of c.as_slice.result.now in (
      c.self.invariant.2,
      c.as_slice.ensures.table,
      c.self.invariant.1,
      roles-lend es others (roles_of c.args.abi.now) c.as_slice.ensures.table c.as_slice.ensures.rules,
    )
