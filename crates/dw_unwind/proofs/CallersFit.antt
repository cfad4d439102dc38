-- The numbers of a caller are below 2^w (w is the size of an address in bits), given laws about
-- checked sections and about runs of expressions.
use Rattle.std.proofs.Common.{◌≡◌, ℕ, pos, negsuc, ◌+◌, ◌-◌, ◌^◌, ◌<◌, ◌≤◌, ◌==◌, Bool, true, false, if◌then◌else◌, List}
use Rattle.std.proofs.Common.{[], ◌∷◌, length, All, IfSome, refl, sym, subst, arith, inl, inr}
use Rattle.std.specs.Prelude.{ℤ, Option, Some, None, nat_le}
use Rattle.std.specs.List.{AllByRecursion}
use Rattle.std.proofs.lemmas.List.Elements.{All-from_recursion, recursion_from_All}
use Rattle.std.proofs.lemmas.Nat.{pow_pos, mod_below}
use Rattle.dw_bytes.specs.declared.target.Target.{Target}
use Rattle.dw_bytes.specs.declared.target.AddressSize.{AddressSize}
use Rattle.dw_bytes.specs.Encoding.{bytes_of_address}
use Rattle.dw_stack.specs.declared.state.Kind.{Kind}
use Rattle.dw_stack.specs.declared.state.Kind.TheVariants.{FrameCfa, FrameRegister, Location}
use Rattle.dw_stack.specs.Expressions.{operations_in}
use Rattle.dw_stack.specs.Located.{LocatedExpression}
use Rattle.dw_stack.specs.Machine.{Configuration, entry, EvaluationError, Unreadable, DivisionByZero, GivesResult, LocationDescription}
use Rattle.dw_stack.specs.Machine.{Piece, Run}
use Rattle.dw_stack.specs.Paths.{Placed}
use Rattle.dw_rules.specs.Abi.{Abi, Role, unnamed, kept, stack_pointer, rule_of_role, or_rule, rule_under, rules_under}
use Rattle.dw_rows.specs.RowLookups.{IsUnder, IsRuleUnder, IsCfaUnder, IsEntryUnder, IsRowUnder}
use Rattle.dw_rules.specs.Rules.{Rule, Cfa, Row, RuleOver, register_and_offset, cfa_expression, rule_in}
use Rattle.dw_rules.specs.Rules.{default, same_value, offset, val_offset, register, expression, val_expression}
use Rattle.dw_eval.specs.Fits.{NumbersFit}
use Rattle.dw_eval.specs.Meaning.{meaning_of}
use Rattle.dw_eval.specs.Numbers.{wrap, width_of}
use Rattle.dw_eval.specs.Results.{Outcome, outcome_of_location, no_answer, result_of, first_stack, start_configuration, RunsFrom, IsRun}
use Rattle.dw_eval.specs.World.{World, width, number_at}
use Rattle.dw_unwind.specs.Caller.{Answer, value, undefined, unreadable, division_by_zero}
use Rattle.dw_unwind.specs.Caller.{machine, with_cfa, under, number_plus, content_plus}
use Rattle.dw_unwind.specs.Caller.{word, if_value, answer_of, Gives, IsCfa, NeedsCfa, IsRegister, AreRegisters, Caller, IsCaller}
use Rattle.dw_unwind.specs.CallerFits.{AnswerFits, CallerFits}

-- ---- answers that need no run of an expression

wrap_below : (w : ℕ) (z : ℤ) → wrap w z < 2 ^ w
wrap_below w (pos n) = mod_below n (2 ^ w) (pow_pos w)
wrap_below w (negsuc n) = omega (arith, pow_pos w)

content_fits : (e : World) (by : ℤ) (o : Option ℕ) → AnswerFits (2 ^ width e) (content_plus e by o)
content_fits e by (Some n) = wrap_below (width e) _
content_fits e by None = tt

either_fits : (m : ℕ) (b : Bool) (x y : Answer) → AnswerFits m x → AnswerFits m y → AnswerFits m (if b then x else y)
either_fits m true x y h k = h
either_fits m false x y h k = k

word_fits : (e : World) (a : ℕ) → AnswerFits (2 ^ width e) (word e a)
word_fits e a =
    either_fits (2 ^ width e) (nat_le (a + bytes_of_address e.target.address_size) (2 ^ width e)) _ unreadable
    (content_fits e (pos 0) (number_at e.memory e.target.order a (bytes_of_address e.target.address_size))) tt

if_value_fits : (m : ℕ) (a : Answer) (f : ℕ → Answer) → ((n : ℕ) → AnswerFits m (f n)) → AnswerFits m (if_value a f)
if_value_fits m (value n) f each = each n
if_value_fits m undefined f each = tt
if_value_fits m unreadable f each = tt
if_value_fits m division_by_zero f each = tt

needs_fit : (m : ℕ) (cfa : Answer) (Is : ℕ → Answer → Type 0) (a : Answer) → ((c : ℕ) → Is c a → AnswerFits m a) → NeedsCfa cfa Is a
    → AnswerFits m a
needs_fit m (value c) Is a each h = each c h
needs_fit m undefined Is a each h = subst (AnswerFits m) (sym h) tt
needs_fit m unreadable Is a each h = subst (AnswerFits m) (sym h) tt
needs_fit m division_by_zero Is a each h = subst (AnswerFits m) (sym h) tt

-- ---- expressions whose numbers fit an address size

-- a number that fits the address size of the expression also fits `size`
abbrev IsWithin : AddressSize → LocatedExpression → Type 0
IsWithin size x = (n : ℕ) → n < 2 ^ width_of x.target.address_size → n < 2 ^ width_of size

abbrev RuleWithin : AddressSize → Rule → Type 0
RuleWithin size (expression x) = IsWithin size x
RuleWithin size (val_expression x) = IsWithin size x
RuleWithin size _ = Unit {0}

abbrev CfaWithin : AddressSize → Option Cfa → Type 0
CfaWithin size (Some (cfa_expression x)) = IsWithin size x
CfaWithin size _ = Unit {0}

abbrev RulesWithin : AddressSize → List (ℕ × Rule) → Type 0
RulesWithin size rules = AllByRecursion (λ (entry : ℕ × Rule). RuleWithin size entry.1) rules

if_within : (size : AddressSize) (b : Bool) (x y : Rule) → RuleWithin size x → RuleWithin size y → RuleWithin size (if b then x else y)
if_within size true x y h k = h
if_within size false x y h k = k

one_within : (size : AddressSize) (rules : List (ℕ × Rule)) (r : ℕ) → RulesWithin size rules → RuleWithin size (rule_in rules r)
one_within size [] r h = tt
one_within size (entry ∷ rules) r h = if_within size (entry.0 == r) _ _ h.0 (one_within size rules r h.1)

or_within : (size : AddressSize) (x : Rule) (role : Role) → RuleWithin size x → RuleWithin size (or_rule x (rule_of_role role))
or_within size default unnamed h = tt
or_within size default kept h = tt
or_within size default stack_pointer h = tt
or_within size RuleOver.undefined role h = h
or_within size same_value role h = h
or_within size (offset n) role h = h
or_within size (val_offset n) role h = h
or_within size (register r) role h = h
or_within size (expression x) role h = h
or_within size (val_expression x) role h = h

-- if all rules of a list are within `size` (`RuleWithin`), so is a register's rule under an ABI
one_under : (size : AddressSize) (abi : Abi) (rules : List (ℕ × Rule)) (r : ℕ) → RulesWithin size rules
    → RuleWithin size (rule_under abi rules r)
one_under size abi rules r h = or_within size (rule_in rules r) (abi r) (one_within size rules r h)

-- ---- runs

top_below : (m : ℕ) (s : List ℕ) → 1 ≤ length s → All (λ v. v < m) s → entry s 0 < m
top_below m s some all = all (length s - 1 - 0) 0 (omega (arith, some))

located_fits : (m : ℕ) (empty : Bool) (p : Option LocationDescription) (ps : List Piece) (s : List ℕ)
    → AnswerFits m (answer_of (outcome_of_location empty p ps s))
located_fits m true p ps s = tt
located_fits m false p (q ∷ ps) s = tt
located_fits m false (Some w) [] s = tt
located_fits m false None [] s = tt

result_fits : (m : ℕ) (kind : Kind) (empty : Bool) (c : Configuration) → GivesResult kind empty c → All (λ n. n < m) c.stack
    → AnswerFits m (answer_of (result_of kind empty c))
result_fits m FrameCfa empty c there fits = top_below m c.stack there.1 fits
result_fits m FrameRegister empty c there fits = top_below m c.stack there.1 fits
result_fits m Location empty c there fits = located_fits m empty c.pending c.pieces c.stack

none_fits : (m : ℕ) (why : EvaluationError) (at : ℕ) → AnswerFits m (answer_of (no_answer why at))
none_fits m Unreadable at = tt
none_fits m DivisionByZero at = tt

more_fits : (m k : ℕ) (a : Answer) → ((n : ℕ) → n < m → n < k) → AnswerFits m a → AnswerFits k a
more_fits m k (value n) more h = more n h
more_fits m k undefined more h = tt
more_fits m k unreadable more h = tt
more_fits m k division_by_zero more h = tt

module _ (each : (abi : Abi) (rules : List (ℕ × Rule)) → All (λ entry. entry.1 ≡ rule_under abi rules entry.0) (rules_under abi rules))
    (numbers : (e : World) (kind : Kind) (ops : List Placed) (len n : ℕ) (s : List ℕ) (c : Configuration)
    → first_stack e kind ≡ Some s → Run (meaning_of e) ops len n (start_configuration s) c → NumbersFit (2 ^ width e) c) where
  run_fits : (e : World) (kind : Kind) (ops : List Placed) (len : ℕ) (o : Outcome) (n : ℕ) → IsRun e kind ops len o n
      → AnswerFits (2 ^ width e) (answer_of o)
  run_fits e kind ops len o n run = by (first_stack e kind) refl run
    where
      by : (start : Option (List ℕ)) → first_stack e kind ≡ start → RunsFrom e kind ops len start o n
          → AnswerFits (2 ^ width e) (answer_of o)
      by None is r = subst (λ p. AnswerFits (2 ^ width e) (answer_of p)) (sym r.0) tt
      by (Some s) is r = elim r [
        | inl finish ↦ subst (λ p. AnswerFits (2 ^ width e) (answer_of p)) (sym finish.gives)
            (result_fits (2 ^ width e) kind (length ops == 0) finish.last finish.ended.result
            (numbers e kind ops len n s finish.last is finish.run).stack)
        | inr fail ↦ subst (λ p. AnswerFits (2 ^ width e) (answer_of p)) (sym fail.gives)
            (none_fits (2 ^ width e) fail.why fail.last.offset)
      ]

  gives_fit : (e : World) (size : AddressSize) (kind : Kind) (x : LocatedExpression) (a : Answer) → IsWithin size x → Gives e kind x a
      → AnswerFits (2 ^ width_of size) a
  gives_fit e size kind x a within g =
      subst (AnswerFits (2 ^ width_of size)) (sym g.3)
      (more_fits (2 ^ width_of x.target.address_size) (2 ^ width_of size) (answer_of g.0) within
      (run_fits (under x.target e) kind (operations_in x.target x.bytes) (length x.bytes) g.0 g.1 g.2))

  -- ---- the parts of a caller

  module _ (e : World) where
    abbrev m : ℕ
    m = 2 ^ width e

    cfa_fits : (rule : Option Cfa) (a : Answer) → CfaWithin e.target.address_size rule → IsCfa e rule a → AnswerFits m a
    cfa_fits (Some (register_and_offset r n)) a within h = subst (AnswerFits m) (sym h) (content_fits e n (e.registers r))
    cfa_fits (Some (cfa_expression x)) a within h = gives_fit e e.target.address_size FrameCfa x a within h
    cfa_fits None a within h = subst (AnswerFits m) (sym h) tt

    register_fits : (cfa : Answer) (r : ℕ) (rule : Rule) (a : Answer) → RuleWithin e.target.address_size rule → IsRegister e cfa r rule a
        → AnswerFits m a
    register_fits cfa r default a within h = subst (AnswerFits m) (sym h) tt
    register_fits cfa r RuleOver.undefined a within h = subst (AnswerFits m) (sym h) tt
    register_fits cfa r same_value a within h = subst (AnswerFits m) (sym h) (content_fits e (pos 0) (e.registers r))
    register_fits cfa r (offset n) a within h =
        subst (AnswerFits m) (sym h) (if_value_fits m cfa (λ c. word e (number_plus e n c)) (λ c. word_fits e (number_plus e n c)))
    register_fits cfa r (val_offset n) a within h =
        subst (AnswerFits m) (sym h) (if_value_fits m cfa (λ c. value (number_plus e n c)) (λ c. wrap_below (width e) _))
    register_fits cfa r (register other) a within h = subst (AnswerFits m) (sym h) (content_fits e (pos 0) (e.registers other))
    register_fits cfa r (expression x) a within h =
        needs_fit m cfa (λ c b. (address : Answer) × Gives (with_cfa e c) FrameRegister x address × (b ≡ if_value address (word e))) a
        (λ c k. subst (AnswerFits m) (sym k.2) (if_value_fits m k.0 (word e) (word_fits e))) h
    register_fits cfa r (val_expression x) a within h =
        needs_fit m cfa (λ c b. Gives (with_cfa e c) FrameRegister x b) a
        (λ c k. gives_fit (with_cfa e c) e.target.address_size FrameRegister x a within k) h

    registers_fit : (cfa : Answer) (rules : List (ℕ × Rule)) (found : List (ℕ × Answer)) → RulesWithin e.target.address_size rules
        → AreRegisters e cfa rules found → AllByRecursion (λ (x : ℕ × Answer). AnswerFits m x.1) found
    registers_fit cfa [] [] within h = tt
    registers_fit cfa [] (x ∷ found) within h = absurd h
    registers_fit cfa (entry ∷ rules) [] within h = absurd h
    registers_fit cfa (entry ∷ rules) (x ∷ found) within h =
        (register_fits cfa entry.0 entry.1 x.1 within.0 h.1, registers_fit cfa rules found within.1 h.2)

    under_within : (abi : Abi) (rules : List (ℕ × Rule)) → RulesWithin e.target.address_size rules
        → RulesWithin e.target.address_size (rules_under abi rules)
    under_within abi rules within =
        recursion_from_All (λ (entry : ℕ × Rule). RuleWithin e.target.address_size entry.1) (rules_under abi rules)
        (λ k d lt. subst (RuleWithin e.target.address_size) (sym (each abi rules k d lt))
        (one_under e.target.address_size abi rules _ within))

    caller_fits : (abi : Abi) (back : ℕ) (row : Row) (c : Caller) → CfaWithin e.target.address_size row.cfa
        → RulesWithin e.target.address_size row.rules → IsCaller e abi back row c → CallerFits m c
    caller_fits abi back row c cfa rules is = record {
      cfa = cfa_fits row.cfa c.cfa cfa is.cfa;
      registers = All-from_recursion (λ (x : ℕ × Answer). AnswerFits m x.1) c.registers
          (registers_fit c.cfa (rules_under abi row.rules) c.registers (under_within abi row.rules rules) is.registers);
      return_address = register_fits c.cfa back (rule_under abi row.rules back) c.return_address
          (one_under e.target.address_size abi row.rules back rules) is.return_address;
    }

  -- ---- the caller that a row gives under the target of its section

  pub row_caller_fits : (target : Target) (registers memory : ℕ → Option ℕ) (abi : Abi) (back : ℕ) (row : Row) (c : Caller)
      → IsRowUnder target row → IsCaller (machine target registers memory) abi back row c
      → CallerFits (2 ^ width_of target.address_size) c
  row_caller_fits target registers memory abi back row c h is =
      caller_fits (machine target registers memory) abi back row c (cfa_of row.cfa h.cfa)
      (rules_of row.rules (recursion_from_All (IsEntryUnder target) row.rules h.rules)) is
    where
      within : (x : LocatedExpression) → IsUnder target x → IsWithin target.address_size x
      within x under n lt = subst (λ (t : Target). n < 2 ^ width_of t.address_size) under lt

      rule_of : (x : Rule) → IsRuleUnder target x → RuleWithin target.address_size x
      rule_of (expression x) under = within x under
      rule_of (val_expression x) under = within x under
      rule_of default under = tt
      rule_of RuleOver.undefined under = tt
      rule_of same_value under = tt
      rule_of (offset n) under = tt
      rule_of (val_offset n) under = tt
      rule_of (register r) under = tt

      cfa_of : (o : Option Cfa) → IfSome o (IsCfaUnder target) → CfaWithin target.address_size o
      cfa_of None under = tt
      cfa_of (Some (register_and_offset r n)) under = tt
      cfa_of (Some (cfa_expression x)) under = within x under

      rules_of : (rules : List (ℕ × Rule)) → AllByRecursion (IsEntryUnder target) rules → RulesWithin target.address_size rules
      rules_of [] under = tt
      rules_of (entry ∷ rules) under = (rule_of entry.1 under.0, rules_of rules under.1)
