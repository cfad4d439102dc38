use Rattle.std.proofs.Common.{ℕ, List, ap, sym, ◌∙◌, arith}
use Rattle.dw_rules.specs.Rules.{PlacedRule, rule_in}
use Rattle.dw_rules.proofs.Under.{none-of-either, no-entries, none-below-first, first-less, first-equal, first-greater}
use Rattle.dw_rules.proofs.Under.{less-from-cmp, equal-from-cmp, greater-from-cmp}
use Rattle.dw_rules.proofs.row.lowest.Goals.{in-Less, in-Equal, in-Greater}
use Rattle.dw_rules.proofs.row.lowest.Goals as goal

pub returns-in-empty-others : goal.returns-in-empty-others
returns-in-empty-others c =
    rw (no-entries c.args.entries.now (omega arith), no-entries c.args.others.now (omega arith)) (none-of-either {E = ℕ})

pub returns-in-len1-up-others : goal.returns-in-len1-up-others
returns-in-len1-up-others c =
    first-greater c.args.entries.now c.args.others.now _ c.in-len1-up-others.len_at_least c.requires.entries c.requires.others
    (λ r le. ap (λ (es : List (ℕ × PlacedRule)). rule_in es r) (no-entries c.args.entries.now (omega arith)))

pub returns-in-empty-others-2 : goal.returns-in-empty-others-2
returns-in-empty-others-2 c =
    first-less c.args.entries.now c.args.others.now _ c.in-len1-up.len_at_least c.requires.entries c.requires.others
    (λ r le. ap (λ (es : List (ℕ × PlacedRule)). rule_in es r) (no-entries c.args.others.now (omega arith)))

pub returns-after-cmp : goal.returns-after-cmp
returns-after-cmp c =
    elim c.match-cmp.branch [
      | in-Less w ↦
          rw w.result-is (first-less c.args.entries.now c.args.others.now _ c.in-len1-up.len_at_least c.requires.entries c.requires.others
          (none-below-first c.args.others.now _ _ c.in-len1-up-others-2.len_at_least c.requires.others
          (less-from-cmp _ _ (sym c.cmp.ensures ∙ w.in-Less.is))))
      | in-Equal w ↦
          rw w.result-is (first-equal c.args.entries.now c.args.others.now _ c.in-len1-up.len_at_least c.in-len1-up-others-2.len_at_least
          c.requires.entries c.requires.others (equal-from-cmp _ _ (sym c.cmp.ensures ∙ w.in-Equal.is)))
      | in-Greater w ↦
          rw w.result-is (first-greater c.args.entries.now c.args.others.now _ c.in-len1-up-others-2.len_at_least c.requires.entries
          c.requires.others (none-below-first c.args.entries.now _ _ c.in-len1-up.len_at_least c.requires.entries
          (greater-from-cmp _ _ (sym c.cmp.ensures ∙ w.in-Greater.is))))
    ]
