-- A row whose rules have no expressions gives a caller.
use Rattle.std.proofs.Common.{◌≡◌, ℕ, ◌+◌, ◌<◌, ◌≤◌, ◌==◌, ℤ, Bool, true, false, if◌then◌else◌, List, [], ◌∷◌, refl, sym, ap, ◌∙◌, arith}
use Rattle.std.specs.Prelude.{Option, Some, None, All}
use Rattle.std.specs.List.{AllByRecursion}
use Rattle.std.proofs.lemmas.List.Elements.{recursion_from_All}
use Rattle.dw_eval.specs.World.{World}
use Rattle.dw_rules.specs.Abi.{Abi, Role, unnamed, kept, stack_pointer, or_rule, rule_of_role, rule_under, rules_under}
use Rattle.dw_rules.specs.Rules.{Rule, RuleOver, Row, IsTable, rule_in, default, same_value, offset, val_offset, register, expression, val_expression}
use Rattle.dw_rules.specs.Rules.{register_and_offset}
use Rattle.dw_unwind.specs.Caller.{value, IsCfa, IsRegister, content_plus, number_plus}
use Rattle.dw_unwind.specs.DirectAnswers.{IsDirect, AreDirect, NamesRegisters, HasDirectCaller, direct_answer, answer_under}
use Rattle.dw_unwind.specs.Walks.{content_of}
use Rattle.dw_unwind.proofs.Contents.{by_contents}

-- a rule without an expression gives its direct answer
direct-is : (e : World) (cfa r : ℕ) (rule : Rule) → IsDirect rule → IsRegister e (value cfa) r rule (direct_answer e cfa r rule)
direct-is e cfa r default direct = refl
direct-is e cfa r RuleOver.undefined direct = refl
direct-is e cfa r same_value direct = refl
direct-is e cfa r (offset n) direct = refl
direct-is e cfa r (val_offset n) direct = refl
direct-is e cfa r (register other) direct = refl
direct-is e cfa r (expression x) direct = absurd direct
direct-is e cfa r (val_expression x) direct = absurd direct

-- the rule of a register is direct if all rules are
direct-in : (rules : List (ℕ × Rule)) (r : ℕ) → AllByRecursion (λ (entry : ℕ × Rule). IsDirect entry.1) rules → IsDirect (rule_in rules r)
direct-in [] r all = tt
direct-in (entry ∷ rules) r all = go (entry.0 == r) (direct-in rules r all.1)
  where
    go : (here : Bool) → IsDirect (rule_in rules r) → IsDirect (if here then entry.1 else rule_in rules r)
    go true later = all.0
    go false later = later

direct-role : (role : Role) → IsDirect (rule_of_role role)
direct-role unnamed = tt
direct-role kept = tt
direct-role stack_pointer = tt

direct-or : (x y : Rule) → IsDirect x → IsDirect y → IsDirect (or_rule x y)
direct-or default y one other = other
direct-or RuleOver.undefined y one other = tt
direct-or same_value y one other = tt
direct-or (offset n) y one other = tt
direct-or (val_offset n) y one other = tt
direct-or (register n) y one other = tt
direct-or (expression n) y one other = one
direct-or (val_expression n) y one other = one

-- a table has no rule for a register past 65535
none-far : (low : ℕ) (rules : List (ℕ × Rule)) (r : ℕ) → IsTable low rules → 65536 ≤ r → rule_in rules r ≡ default
none-far low [] r table le = refl
none-far low (entry ∷ rules) r table le = go (entry.0 == r) refl (none-far (entry.0 + 1) rules r table.3 le)
  where
    go : (here : Bool) → (entry.0 == r) ≡ here → rule_in rules r ≡ default → (if here then entry.1 else rule_in rules r) ≡ default
    go true same later = absurd (grind (arith, same, le, table.1))
    go false same later = later

far-answer : (e : World) (abi : Abi) (row : Row) (cfa r : ℕ) → NamesRegisters abi → IsTable 0 row.rules → 65536 ≤ r
    → content_of (answer_under e abi row cfa r) ≡ None
far-answer e abi row cfa r names table le =
    ap (λ (rule : Rule). content_of (direct_answer e cfa r rule))
    (ap (λ (x : Rule). or_rule x (rule_of_role (abi r))) (none-far 0 row.rules r table le)
    ∙ ap (λ (role : Role). or_rule default (rule_of_role role)) (names r le))

pub direct-caller : (e : World) (abi : Abi) (column : ℕ) (row : Row) (base content : ℕ) (by : ℤ)
    → ((abi : Abi) (rules : List (ℕ × Rule)) → All (λ entry. entry.1 ≡ rule_under abi rules entry.0) (rules_under abi rules))
    → ((abi : Abi) (rules : List (ℕ × Rule)) (r : ℕ) → r < 65536 → rule_in (rules_under abi rules) r ≡ rule_under abi rules r)
    → NamesRegisters abi → IsTable 0 row.rules → AreDirect row.rules → row.cfa ≡ Some (register_and_offset base by)
    → e.registers base ≡ Some content → HasDirectCaller e abi column row (number_plus e by content)
direct-caller e abi column row base content by each all names table direct rule-is known =
    let cfa = number_plus e by content in
    let rules = recursion_from_All (λ (entry : ℕ × Rule). IsDirect entry.1) row.rules direct in
    let gives = λ (r : ℕ). direct-is e cfa r (rule_under abi row.rules r)
    (direct-or (rule_in row.rules r) (rule_of_role (abi r)) (direct-in row.rules r rules) (direct-role (abi r))) in
    let is : IsCfa e (Some (register_and_offset base by)) (value cfa) = sym (ap (content_plus e by) known) in
    let made = by_contents e abi column row (value cfa) (answer_under e abi row cfa column) (register_and_offset base by)
    (λ r. content_of (answer_under e abi row cfa r)) each all rule-is is (λ r. (answer_under e abi row cfa r, gives r, refl))
    (λ r le. far-answer e abi row cfa r names table le) (gives column) in
    record {
      registers = made.0;
      is = made.1;
      contents = λ r. ap (λ (f : ℕ → Option ℕ). f r) made.2;
    }
