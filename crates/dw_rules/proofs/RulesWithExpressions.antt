-- Rules with expressions in place of their offsets.
use Rattle.std.proofs.Common.{◌≡◌, ◌≢◌, ℕ, ◌+◌, List, [], ◌∷◌, length, Bool, true, false, cond, refl}
use Rattle.std.proofs.Common.{ap, ◌∙◌, eqb, arith}
use Rattle.std.specs.List.{AllByRecursion}
use Rattle.std.proofs.lemmas.List.Elements.{All-from_recursion, recursion_from_All}
use Rattle.std.specs.Prelude.{All}
use Rattle.dw_stack.specs.Located.{LocatedExpression}
use Rattle.dw_rules.specs.Rules.{PlacedRule, Rule, default, undefined, same_value, offset, val_offset, register}
use Rattle.dw_rules.specs.Rules.{expression, val_expression, rule_in, IsTable}
use Rattle.dw_rules.specs.RowsWithExpressions.{or_nowhere, rule_with_expressions, rules_with_expressions, LendsRule, LendsEntry, LendsEach}
use Rattle.dw_rules.specs.RowsWithExpressions.{IsRuleOfKind, IsEntryOfKind}

if-with : (es : List LocatedExpression) (b : Bool) (x y : PlacedRule)
    → ◌≡◌ {A = Rule} (cond b (rule_with_expressions es x) (rule_with_expressions es y)) (rule_with_expressions es (cond b x y))
if-with es true x y = refl
if-with es false x y = refl

pub rule_in-with : (es : List LocatedExpression) (rules : List (ℕ × PlacedRule)) (r : ℕ)
    → rule_in (rules_with_expressions es rules) r ≡ rule_with_expressions es (rule_in rules r)
rule_in-with es [] r = refl
rule_in-with es (x ∷ rules) r =
    ap (cond (eqb x.0 r) (rule_with_expressions es x.1)) (rule_in-with es rules r) ∙ if-with es (eqb x.0 r) x.1 (rule_in rules r)

with-some : (es : List LocatedExpression) (x : PlacedRule) → x ≢ default → rule_with_expressions es x ≢ default
with-some es default other e = other refl
with-some es undefined other e = cc
with-some es same_value other e = cc
with-some es (offset n) other e = cc
with-some es (val_offset n) other e = cc
with-some es (register r) other e = cc
with-some es (expression at) other e = cc
with-some es (val_expression at) other e = cc

pub table-with : (es : List LocatedExpression) (low : ℕ) (rules : List (ℕ × PlacedRule)) → IsTable low rules
    → IsTable low (rules_with_expressions es rules)
table-with es low [] t = tt
table-with es low (x ∷ rules) t = (t.0, t.1, with-some es x.1 t.2, table-with es (x.0 + 1) rules t.3)

pub length-with : (es : List LocatedExpression) (rules : List (ℕ × PlacedRule)) → length (rules_with_expressions es rules) ≡ length rules
length-with es [] = refl
length-with es (x ∷ rules) = omega (arith, length-with es rules)

-- ---- each expression in a rule has the kind that the rule needs

pub rule-of-kind : (es : List LocatedExpression) (x : PlacedRule) → LendsRule es x → IsRuleOfKind (rule_with_expressions es x)
rule-of-kind es (expression at) h = ap (λ (e : LocatedExpression). e.kind) (ap or_nowhere h.found) ∙ h.of_kind
rule-of-kind es (val_expression at) h = ap (λ (e : LocatedExpression). e.kind) (ap or_nowhere h.found) ∙ h.of_kind
rule-of-kind es default h = tt
rule-of-kind es undefined h = tt
rule-of-kind es same_value h = tt
rule-of-kind es (offset n) h = tt
rule-of-kind es (val_offset n) h = tt
rule-of-kind es (register r) h = tt

kinds-by : (es : List LocatedExpression) (rules : List (ℕ × PlacedRule)) → AllByRecursion (LendsEntry es) rules
    → AllByRecursion IsEntryOfKind (rules_with_expressions es rules)
kinds-by es [] h = tt
kinds-by es (x ∷ rules) h = (rule-of-kind es x.1 h.0, kinds-by es rules h.1)

pub kinds-with : (es : List LocatedExpression) (rules : List (ℕ × PlacedRule)) → LendsEach es rules
    → All IsEntryOfKind (rules_with_expressions es rules)
kinds-with es rules h = All-from_recursion IsEntryOfKind (rules_with_expressions es rules)
    (kinds-by es rules (recursion_from_All (LendsEntry es) rules h))

chosen-lent : (es : List LocatedExpression) (b : Bool) (x y : PlacedRule) → LendsRule es x → LendsRule es y → LendsRule es (cond b x y)
chosen-lent es true x y h k = h
chosen-lent es false x y h k = k

lends-by : (es : List LocatedExpression) (rules : List (ℕ × PlacedRule)) (r : ℕ) → AllByRecursion (LendsEntry es) rules
    → LendsRule es (rule_in rules r)
lends-by es [] r h = tt
lends-by es (x ∷ rules) r h = chosen-lent es (eqb x.0 r) x.1 (rule_in rules r) h.0 (lends-by es rules r h.1)

-- if a list's rules name only expressions among `es`, so does the rule of each register
pub lends-rule_in : (es : List LocatedExpression) (rules : List (ℕ × PlacedRule)) (r : ℕ) → LendsEach es rules
    → LendsRule es (rule_in rules r)
lends-rule_in es rules r h = lends-by es rules r (recursion_from_All (LendsEntry es) rules h)
