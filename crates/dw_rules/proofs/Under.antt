-- The rules of two tables of register rules together: the second table's rules apply to registers
-- that have none in the first (`rules_of_either`).
use Rattle.std.proofs.Common.{◌≡◌, ◌≢◌, ℕ, zero, suc, ◌+◌, ◌<◌, ◌≤◌, true, false, List, [], ◌∷◌, length, refl, sym, ap, ◌∙◌, subst}
use Rattle.std.proofs.Common.{arith, eqb, inl, inr, eq-eqb, ◌-◌, take, drop, get_or, Less, Equal, Greater, nat_cmp}
use Rattle.std.specs.Cmp.{nat_cmp_is}
use Rattle.std.proofs.Math.Seq.{take-length}
use Rattle.std.proofs.lemmas.Bool.{cases_lt, cases_eq}
use Rattle.std.proofs.lemmas.Bool.Decides.{nat_tests}
use Rattle.std.proofs.lemmas.List.Elements.{All-from_recursion, recursion_from_All}
use Rattle.dw_stack.specs.Located.{LocatedExpression}
use Rattle.dw_rules.specs.Rules.{RuleOver, PlacedRule, default, undefined, same_value, offset, val_offset, register, expression}
use Rattle.dw_rules.specs.Rules.{val_expression}
use Rattle.dw_rules.specs.Rules.{rule_in, IsTable, rule_list}
use Rattle.dw_rules.specs.Abi.{Abi, Role, unnamed, kept, stack_pointer, or_rule, rule_of_role, rules_under}
use Rattle.dw_rules.specs.FirstEntry.{rule_of_either, rules_of_either}
use Rattle.dw_rules.specs.declared.register_rules.RuleEntry.{RuleEntry}
use Rattle.dw_rules.specs.FirstEntry.{IsLowest}
use Rattle.dw_rules.specs.Views.{entry_of, entries_of}
use Rattle.dw_rules.specs.RowsWithExpressions.{rule_with_expressions, rules_with_expressions, LendsRule, LendsEntry, LendsEach}
use Rattle.dw_rules.proofs.RulesWithExpressions.{rule_in-with, table-with, lends-rule_in}
use Rattle.dw_rules.proofs.NamedExpressions.{listed-have}
use Rattle.dw_rules.proofs.Tables.{rule_in-below, rule_list-table, rule_list-same, rule_in-rule_list, IsTable-rule_list}

-- ---- a rule, or another one if the first is Default

or-default : {E : Type 0} → (x : RuleOver E) → or_rule x default ≡ x
or-default default = refl
or-default undefined = refl
or-default same_value = refl
or-default (offset n) = refl
or-default (val_offset n) = refl
or-default (register r) = refl
or-default (expression e) = refl
or-default (val_expression e) = refl

or-some : {E : Type 0} → (x y : RuleOver E) → x ≢ default → or_rule x y ≡ x
or-some default y some = absurd (some refl)
or-some undefined y some = refl
or-some same_value y some = refl
or-some (offset n) y some = refl
or-some (val_offset n) y some = refl
or-some (register r) y some = refl
or-some (expression e) y some = refl
or-some (val_expression e) y some = refl

pub or-with : (es : List LocatedExpression) (x y : PlacedRule) → rule_with_expressions es (or_rule x y) ≡ or_rule (rule_with_expressions es x) (rule_with_expressions es y)
or-with es default y = refl
or-with es undefined y = refl
or-with es same_value y = refl
or-with es (offset n) y = refl
or-with es (val_offset n) y = refl
or-with es (register r) y = refl
or-with es (expression e) y = refl
or-with es (val_expression e) y = refl

-- ---- the first entry of a table

-- if no register below `low` has a rule in a table, all registers of the table are at least `low`
table-from : {E : Type 0} → (low : ℕ) (es : List (ℕ × RuleOver E)) → IsTable 0 es → ((r : ℕ) → r < low → rule_in es r ≡ default)
    → IsTable low es
table-from low [] t none = tt
table-from low (e ∷ es) t none = elim (cases_lt e.0 low) [
  | inl below ↦ absurd (t.2 (let yes : eqb e.0 e.0 ≡ true = eq-eqb e.0 e.0 refl in rw yes at (none e.0 below)))
  | inr le ↦ (le, t.1, t.2, t.3)
]

pub record IsFirst {E : Type 0} (f g : ℕ → RuleOver E) (n : ℕ) : Type 0 where
  pub within : n < 65536
  pub some : f n ≢ default
  pub before : (r : ℕ) → r < n → f r ≡ default
  pub none : (r : ℕ) → r ≤ n → g r ≡ default
  pub past : (r : ℕ) → n < r → f r ≡ g r

pub first-list : {E : Type 0} → (f g : ℕ → RuleOver E) (n : ℕ) → IsFirst f g n → rule_list f ≡ (n, f n) ∷ rule_list g
first-list {E} f g n is = sym (rule_list-same (rule_in all) f (λ r h. each r h)) ∙ rule_list-table all table
  where
    all : List (ℕ × RuleOver E)
    all = (n, f n) ∷ rule_list g

    table : IsTable 0 all
    table = (
      omega arith,
      is.within,
      is.some,
      table-from (n + 1) (rule_list g) (IsTable-rule_list g)
          (λ r l. rule_in-rule_list g r (omega (arith, is.within)) ∙ is.none r (omega arith)),
    )

    each : (r : ℕ) → r < 65536 → rule_in all r ≡ f r
    each r h = elim (cases_eq n r) [
      | inl same ↦ rw (eq-eqb n r same) (ap f same)
      | inr other ↦
          let no : eqb n r ≡ false = grind (arith, nat_tests) in
          let listed : rule_in (rule_list g) r ≡ g r = rule_in-rule_list g r h in
          rw no (listed ∙ elim (cases_lt n r) [
            | inl above ↦ sym (is.past r above)
            | inr le ↦ is.none r le ∙ sym (is.before r (omega arith))
          ])
    ]

-- ---- the lowest entry of two tables

in-first : {E : Type 0} → (e : ℕ × RuleOver E) (es : List (ℕ × RuleOver E)) → rule_in (e ∷ es) e.0 ≡ e.1
in-first e es = let yes : eqb e.0 e.0 ≡ true = eq-eqb e.0 e.0 refl in rw yes refl

in-past : {E : Type 0} → (e : ℕ × RuleOver E) (es : List (ℕ × RuleOver E)) (r : ℕ) → e.0 < r → rule_in (e ∷ es) r ≡ rule_in es r
in-past e es r lt = let no : eqb e.0 r ≡ false = grind (arith, nat_tests) in rw no refl

-- all registers of a table are at least the first entry's register
from-first : {E : Type 0} → (e : ℕ × RuleOver E) (es : List (ℕ × RuleOver E)) → IsTable 0 (e ∷ es) → IsTable e.0 (e ∷ es)
from-first e es t = (omega arith, t.1, t.2, t.3)

pub lowest-first : {E : Type 0} → (e : ℕ × RuleOver E) (es others : List (ℕ × RuleOver E)) → IsTable 0 (e ∷ es)
    → ((r : ℕ) → r ≤ e.0 → rule_in others r ≡ default) → rules_of_either (e ∷ es) others ≡ e ∷ rules_of_either es others
lowest-first e es others t none =
    let some : rule_of_either (e ∷ es) others e.0 ≡ e.1 =
    ap (λ x. or_rule x (rule_in others e.0)) (in-first e es) ∙ or-some e.1 (rule_in others e.0) t.2 in
    first-list (rule_of_either (e ∷ es) others) (rule_of_either es others) e.0 (record {
      within = t.1;
      some = λ is. t.2 (sym some ∙ is);
      before = λ r l. ap (λ x. or_rule x (rule_in others r)) (rule_in-below e.0 (e ∷ es) r (from-first e es t) l) ∙ none r (omega arith);
      none = λ r l. ap (λ x. or_rule x (rule_in others r)) (rule_in-below (e.0 + 1) es r t.3 (omega arith)) ∙ none r l;
      past = λ r l. ap (λ x. or_rule x (rule_in others r)) (in-past e es r l);
    }) ∙ ap (λ x. (e.0, x) ∷ rules_of_either es others) some

pub lowest-both : {E : Type 0} → (e o : ℕ × RuleOver E) (es os : List (ℕ × RuleOver E)) → IsTable 0 (e ∷ es) → IsTable 0 (o ∷ os)
    → e.0 ≡ o.0 → rules_of_either (e ∷ es) (o ∷ os) ≡ e ∷ rules_of_either es os
lowest-both e o es os t u same =
    let some : rule_of_either (e ∷ es) (o ∷ os) e.0 ≡ e.1 =
    ap (λ x. or_rule x (rule_in (o ∷ os) e.0)) (in-first e es) ∙ or-some e.1 (rule_in (o ∷ os) e.0) t.2 in
    first-list (rule_of_either (e ∷ es) (o ∷ os)) (rule_of_either es os) e.0 (record {
      within = t.1;
      some = λ is. t.2 (sym some ∙ is);
      before = λ r l. ap (λ x. or_rule x (rule_in (o ∷ os) r)) (rule_in-below e.0 (e ∷ es) r (from-first e es t) l)
          ∙ rule_in-below o.0 (o ∷ os) r (from-first o os u) (omega (arith, same));
      none = λ r l. ap (λ x. or_rule x (rule_in os r)) (rule_in-below (e.0 + 1) es r t.3 (omega arith))
          ∙ rule_in-below (o.0 + 1) os r u.3 (omega (arith, same));
      past = λ r l. ap (λ x. or_rule x (rule_in (o ∷ os) r)) (in-past e es r l)
          ∙ ap (λ x. or_rule (rule_in es r) x) (in-past o os r (omega (arith, same)));
    }) ∙ ap (λ x. (e.0, x) ∷ rules_of_either es os) some

pub lowest-other : {E : Type 0} → (o : ℕ × RuleOver E) (es os : List (ℕ × RuleOver E)) → IsTable 0 (o ∷ os)
    → ((r : ℕ) → r ≤ o.0 → rule_in es r ≡ default) → rules_of_either es (o ∷ os) ≡ o ∷ rules_of_either es os
lowest-other o es os t none =
    let some : rule_of_either es (o ∷ os) o.0 ≡ o.1 =
    ap (λ x. or_rule x (rule_in (o ∷ os) o.0)) (none o.0 (omega arith)) ∙ in-first o os in
    first-list (rule_of_either es (o ∷ os)) (rule_of_either es os) o.0 (record {
      within = t.1;
      some = λ is. t.2 (sym some ∙ is);
      before = λ r l. ap (λ x. or_rule x (rule_in (o ∷ os) r)) (none r (omega arith))
          ∙ rule_in-below o.0 (o ∷ os) r (from-first o os t) l;
      none = λ r l. ap (λ x. or_rule x (rule_in os r)) (none r l) ∙ rule_in-below (o.0 + 1) os r t.3 (omega arith);
      past = λ r l. ap (λ x. or_rule (rule_in es r) x) (in-past o os r l);
    }) ∙ ap (λ x. (o.0, x) ∷ rules_of_either es os) some

pub none-of-either : {E : Type 0} → rules_of_either {E = E} [] [] ≡ []
none-of-either {E} = rule_list-table {E = E} [] tt

-- if the second table is empty, the rules of both tables together are the first table's
pub either-alone : {E : Type 0} → (es : List (ℕ × RuleOver E)) → IsTable 0 es → rules_of_either es [] ≡ es
either-alone es t = rule_list-same (rule_of_either es []) (rule_in es) (λ r h. or-default (rule_in es r)) ∙ rule_list-table es t

-- a table without its first entry is a table
pub past-first : {E : Type 0} → (x : ℕ × RuleOver E) (xs : List (ℕ × RuleOver E)) → IsTable 0 (x ∷ xs) → IsTable 0 xs
past-first x [] t = tt
past-first x (y ∷ ys) t = (omega arith, t.3.1, t.3.2, t.3.3)

-- ---- there are at most as many rules as the two tables have entries

few-by : {E : Type 0} → (fuel : ℕ) (es os : List (ℕ × RuleOver E)) → IsTable 0 es → IsTable 0 os → length es + length os ≤ fuel
    → length (rules_of_either es os) ≤ length es + length os
few-by {E} fuel [] [] t u f = omega (arith, ap length (none-of-either {E = E}))
few-by zero (e ∷ es) os t u f = absurd (omega (arith, f))
few-by zero [] (o ∷ os) t u f = absurd (omega (arith, f))
few-by (suc fuel) [] (o ∷ os) t u f =
    let later = few-by fuel [] os tt (past-first o os u) (omega (arith, f)) in
    let is = ap length (lowest-other o [] os u (λ r l. refl)) in omega (arith, later, is)
few-by (suc fuel) (e ∷ es) [] t u f =
    let later = few-by fuel es [] (past-first e es t) tt (omega (arith, f)) in
    let is = ap length (lowest-first e es [] t (λ r l. refl)) in omega (arith, later, is)
few-by (suc fuel) (e ∷ es) (o ∷ os) t u f = elim (cases_lt e.0 o.0) [
  | inl lt ↦
      let later = few-by fuel es (o ∷ os) (past-first e es t) u (omega (arith, f)) in
      let is = ap length (lowest-first e es (o ∷ os) t (λ r l. rule_in-below o.0 (o ∷ os) r (from-first o os u) (omega (arith, lt)))) in
      omega (arith, later, is)
  | inr le ↦ elim (cases_eq e.0 o.0) [
    | inl same ↦
        let later = few-by fuel es os (past-first e es t) (past-first o os u) (omega (arith, f)) in
        let is = ap length (lowest-both e o es os t u same) in omega (arith, later, is)
    | inr other ↦
        let later = few-by fuel (e ∷ es) os t (past-first o os u) (omega (arith, f)) in
        let is = ap length (lowest-other o (e ∷ es) os u
        (λ r l. rule_in-below e.0 (e ∷ es) r (from-first e es t) (omega (arith, le, other)))) in
        omega (arith, later, is)
  ]
]

pub few-of-either : {E : Type 0} → (es os : List (ℕ × RuleOver E)) → IsTable 0 es → IsTable 0 os
    → length (rules_of_either es os) ≤ length es + length os
few-of-either es os t u = few-by (length es + length os) es os t u (omega arith)

-- ---- the same rules, with expressions in place of their offsets

pub rule_list-with : (es : List LocatedExpression) (f : ℕ → PlacedRule)
    → rules_with_expressions es (rule_list f) ≡ rule_list (λ r. rule_with_expressions es (f r))
rule_list-with es f =
    sym (rule_list-table (rules_with_expressions es (rule_list f)) (table-with es 0 (rule_list f) (IsTable-rule_list f)))
    ∙ rule_list-same _ _ (λ r h. rule_in-with es (rule_list f) r ∙ ap (rule_with_expressions es) (rule_in-rule_list f r h))

-- the rule that an ABI gives a role names no expression, so putting expressions in place of their
-- offsets doesn't change it
role-with : (es : List LocatedExpression) (x : Role) → rule_with_expressions es (rule_of_role x) ≡ rule_of_role x
role-with es unnamed = refl
role-with es kept = refl
role-with es stack_pointer = refl

role-lends : (es : List LocatedExpression) (x : Role) → LendsRule es (rule_of_role x)
role-lends es unnamed = tt
role-lends es kept = tt
role-lends es stack_pointer = tt

pub roles-lend : (es : List LocatedExpression) (rules : List (ℕ × PlacedRule)) (abi : Abi) → IsTable 0 rules
    → ((r : ℕ) → rule_in rules r ≡ rule_of_role (abi r)) → LendsEach es rules
roles-lend es rules abi t are =
    let listed : rule_list (λ r. rule_of_role (abi r)) ≡ rules =
    rule_list-same (λ r. rule_of_role (abi r)) (rule_in rules) (λ r h. sym (are r)) ∙ rule_list-table rules t in
    subst (LendsEach es) listed (listed-have (LendsRule es) (λ r. rule_of_role (abi r)) (λ r. role-lends es (abi r)))

lends-or : (es : List LocatedExpression) (x y : PlacedRule) → LendsRule es x → LendsRule es y → LendsRule es (or_rule x y)
lends-or es default y h k = k
lends-or es undefined y h k = h
lends-or es same_value y h k = h
lends-or es (offset n) y h k = h
lends-or es (val_offset n) y h k = h
lends-or es (register r) y h k = h
lends-or es (expression at) y h k = h
lends-or es (val_expression at) y h k = h

pub lends-either : (es : List LocatedExpression) (rules others : List (ℕ × PlacedRule)) → LendsEach es rules → LendsEach es others
    → LendsEach es (rules_of_either rules others)
lends-either es rules others h k =
    listed-have (LendsRule es) (rule_of_either rules others)
    (λ r. lends-or es (rule_in rules r) (rule_in others r) (lends-rule_in es rules r h) (lends-rule_in es others r k))

-- if the second table has the rules of an ABI's roles, the rules of both tables together, with
-- expressions in place of their offsets, are the first table's rules under that ABI
pub either-with : (es : List LocatedExpression) (rules others : List (ℕ × PlacedRule)) (abi : Abi)
    → ((r : ℕ) → rule_in others r ≡ rule_of_role (abi r))
    → rules_with_expressions es (rules_of_either rules others) ≡ rules_under abi (rules_with_expressions es rules)
either-with es rules others abi are =
    rule_list-with es (rule_of_either rules others)
    ∙ rule_list-same _ _ (λ r h. or-with es (rule_in rules r) (rule_in others r)
    ∙ ap (λ x. or_rule x (rule_with_expressions es (rule_in others r))) (sym (rule_in-with es rules r))
    ∙ ap (λ x. or_rule (rule_in (rules_with_expressions es rules) r) (rule_with_expressions es x)) (are r)
    ∙ ap (λ x. or_rule (rule_in (rules_with_expressions es rules) r) x) (role-with es (abi r)))

-- ---- the lowest entry of two tables, and what remains of both

pub lowest-less : (e : ℕ × PlacedRule) (left os : List (ℕ × PlacedRule)) → IsTable 0 (e ∷ left) → IsTable 0 os
    → ((r : ℕ) → r ≤ e.0 → rule_in os r ≡ default) → IsLowest (e ∷ left) os e left os
lowest-less e left os t u none = record {
  first = lowest-first e left os t none;
  table = past-first e left t;
  other_table = u;
  each = λ es h k. let both = recursion_from_All (LendsEntry es) (e ∷ left) h in
      (both.0, All-from_recursion (LendsEntry es) left both.1, k);
}

pub lowest-equal : (e o : ℕ × PlacedRule) (left right : List (ℕ × PlacedRule)) → IsTable 0 (e ∷ left) → IsTable 0 (o ∷ right)
    → e.0 ≡ o.0 → IsLowest (e ∷ left) (o ∷ right) e left right
lowest-equal e o left right t u same = record {
  first = lowest-both e o left right t u same;
  table = past-first e left t;
  other_table = past-first o right u;
  each = λ es h k.
      let own = recursion_from_All (LendsEntry es) (e ∷ left) h in
      let other = recursion_from_All (LendsEntry es) (o ∷ right) k in
      (own.0, All-from_recursion (LendsEntry es) left own.1, All-from_recursion (LendsEntry es) right other.1);
}

pub lowest-greater : (o : ℕ × PlacedRule) (es right : List (ℕ × PlacedRule)) → IsTable 0 es → IsTable 0 (o ∷ right)
    → ((r : ℕ) → r ≤ o.0 → rule_in es r ≡ default) → IsLowest es (o ∷ right) o es right
lowest-greater o es right t u none = record {
  first = lowest-other o es right u none;
  table = t;
  other_table = past-first o right u;
  each = λ xs h k. let other = recursion_from_All (LendsEntry xs) (o ∷ right) k in
      (other.0, h, All-from_recursion (LendsEntry xs) right other.1);
}

-- a register below the register of a table's first entry has no rule in the table
pub none-below : (o : ℕ × PlacedRule) (right : List (ℕ × PlacedRule)) (n : ℕ) → IsTable 0 (o ∷ right) → n < o.0
    → (r : ℕ) → r ≤ n → rule_in (o ∷ right) r ≡ default
none-below o right n t lt r le = rule_in-below o.0 (o ∷ right) r (from-first o right t) (omega (arith, lt, le))

-- ---- the lemmas above, for entries as the code stores them (`RuleEntry`)

-- taking all elements from index 1 on gives the list without its first element
past-is : (x : RuleEntry) (rest : List RuleEntry) → take (length (x ∷ rest) - 1) (drop 1 (x ∷ rest)) ≡ rest
past-is x rest = let count : length (x ∷ rest) - 1 ≡ length rest = omega arith in ap (λ n. take n rest) count ∙ take-length rest

pub no-entries : (entries : List RuleEntry) → length entries < 1 → entries_of entries ≡ []
no-entries [] few = refl
no-entries (x ∷ entries) few = absurd (omega (arith, few))

pub first-less : (entries others : List RuleEntry) (d : RuleEntry) → 1 ≤ length entries → IsTable 0 (entries_of entries)
    → IsTable 0 (entries_of others)
    → ((r : ℕ) → r ≤ (entry_of (get_or entries 0 d)).0 → rule_in (entries_of others) r ≡ default)
    → IsLowest (entries_of entries) (entries_of others) (entry_of (get_or entries 0 d))
    (entries_of (take (length entries - 1) (drop 1 entries))) (entries_of others)
first-less [] others d some t u none = absurd (omega (arith, some))
first-less (x ∷ rest) others d some t u none =
    subst (λ (l : List RuleEntry). IsLowest (entries_of (x ∷ rest)) (entries_of others) (entry_of x) (entries_of l) (entries_of others))
    (sym (past-is x rest)) (lowest-less (entry_of x) (entries_of rest) (entries_of others) t u none)

pub first-greater : (entries others : List RuleEntry) (d : RuleEntry) → 1 ≤ length others → IsTable 0 (entries_of entries)
    → IsTable 0 (entries_of others)
    → ((r : ℕ) → r ≤ (entry_of (get_or others 0 d)).0 → rule_in (entries_of entries) r ≡ default)
    → IsLowest (entries_of entries) (entries_of others) (entry_of (get_or others 0 d)) (entries_of entries)
    (entries_of (take (length others - 1) (drop 1 others)))
first-greater entries [] d some t u none = absurd (omega (arith, some))
first-greater entries (x ∷ rest) d some t u none =
    subst (λ (l : List RuleEntry). IsLowest (entries_of entries) (entries_of (x ∷ rest)) (entry_of x) (entries_of entries) (entries_of l))
    (sym (past-is x rest)) (lowest-greater (entry_of x) (entries_of entries) (entries_of rest) t u none)

pub first-equal : (entries others : List RuleEntry) (d : RuleEntry) → 1 ≤ length entries → 1 ≤ length others
    → IsTable 0 (entries_of entries) → IsTable 0 (entries_of others)
    → (entry_of (get_or entries 0 d)).0 ≡ (entry_of (get_or others 0 d)).0
    → IsLowest (entries_of entries) (entries_of others) (entry_of (get_or entries 0 d))
    (entries_of (take (length entries - 1) (drop 1 entries))) (entries_of (take (length others - 1) (drop 1 others)))
first-equal [] others d some more t u same = absurd (omega (arith, some))
first-equal (x ∷ rest) [] d some more t u same = absurd (omega (arith, more))
first-equal (x ∷ rest) (y ∷ past) d some more t u same =
    subst (λ (l : List RuleEntry). IsLowest (entries_of (x ∷ rest)) (entries_of (y ∷ past)) (entry_of x)
    (entries_of (take (length (x ∷ rest) - 1) (drop 1 (x ∷ rest)))) (entries_of l)) (sym (past-is y past))
    (subst (λ (l : List RuleEntry).
    IsLowest (entries_of (x ∷ rest)) (entries_of (y ∷ past)) (entry_of x) (entries_of l) (entries_of past))
    (sym (past-is x rest)) (lowest-equal (entry_of x) (entry_of y) (entries_of rest) (entries_of past) t u same))

-- a register below the register of the first entry has no rule in the table
pub none-below-first : (entries : List RuleEntry) (d : RuleEntry) (n : ℕ) → 1 ≤ length entries → IsTable 0 (entries_of entries)
    → n < (entry_of (get_or entries 0 d)).0 → (r : ℕ) → r ≤ n → rule_in (entries_of entries) r ≡ default
none-below-first [] d n some t lt r le = absurd (omega (arith, some))
none-below-first (x ∷ rest) d n some t lt r le = none-below (entry_of x) (entries_of rest) n t lt r le

-- ---- comparing registers

pub less-from-cmp : (x y : ℕ) → nat_cmp x y ≡ Less → x < y
less-from-cmp x y h = elim (cases_lt x y) [
  | inl lt ↦ lt
  | inr ge ↦ elim (cases_eq x y) [
    | inl same ↦ absurd (let e : Equal ≡ nat_cmp x y = nat_cmp_is x y Equal same in cc)
    | inr other ↦ absurd (let e : Greater ≡ nat_cmp x y = nat_cmp_is x y Greater (omega (arith, ge, other)) in cc)
  ]
]

pub equal-from-cmp : (x y : ℕ) → nat_cmp x y ≡ Equal → x ≡ y
equal-from-cmp x y h = elim (cases_lt x y) [
  | inl lt ↦ absurd (let e : Less ≡ nat_cmp x y = nat_cmp_is x y Less lt in cc)
  | inr ge ↦ elim (cases_eq x y) [
    | inl same ↦ same
    | inr other ↦ absurd (let e : Greater ≡ nat_cmp x y = nat_cmp_is x y Greater (omega (arith, ge, other)) in cc)
  ]
]

pub greater-from-cmp : (x y : ℕ) → nat_cmp x y ≡ Greater → y < x
greater-from-cmp x y h = elim (cases_lt x y) [
  | inl lt ↦ absurd (let e : Less ≡ nat_cmp x y = nat_cmp_is x y Less lt in cc)
  | inr ge ↦ elim (cases_eq x y) [
    | inl same ↦ absurd (let e : Equal ≡ nat_cmp x y = nat_cmp_is x y Equal same in cc)
    | inr other ↦ omega (arith, ge, other)
  ]
]
