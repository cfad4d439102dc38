-- A row gives exactly one caller, given laws about evaluations of its expressions.
use Rattle.std.proofs.Common.{◌≡◌, ℕ, ◌≤◌, ◌==◌, if◌then◌else◌, Bool, true, false, List, [], ◌∷◌, refl, ap, sym, subst, ◌∙◌, length}
use Rattle.std.specs.Prelude.{Option, Some, None, IfSome, All}
use Rattle.dw_rules.specs.Abi.{Abi, Role, unnamed, kept, stack_pointer, rule_of_role, or_rule, rule_under, rules_under}
use Rattle.std.specs.List.{AllByRecursion}
use Rattle.std.proofs.lemmas.List.Elements.{recursion_from_All}
use Rattle.dw_bytes.specs.declared.target.Target.{Target}
use Rattle.dw_frame.specs.Records.{Cie}
use Rattle.dw_rules.specs.Rules.{Rule, Cfa, register_and_offset, cfa_expression, Row, RuleOver, rule_in, default, same_value, offset}
use Rattle.dw_rules.specs.Rules.{val_offset, register, expression, val_expression}
use Rattle.dw_stack.specs.Located.{LocatedExpression}
use Rattle.dw_rows.specs.GoodRows.{IsGoodAmong, IsGoodRule, IsGoodCfa, IsGoodEntry, HasGoodExpressions}
use Rattle.dw_rows.specs.Section.{FrameSection, cie_in, row_of}
use Rattle.dw_stack.specs.declared.state.Kind.{Kind}
use Rattle.dw_stack.specs.declared.state.Kind.TheVariants.{FrameCfa, FrameRegister}
use Rattle.dw_stack.specs.Expressions.{Checked, IsChecked, IsGoodExpression, IsDepthOf, operations_in}
use Rattle.dw_eval.specs.World.{World}
use Rattle.dw_eval.specs.Results.{Outcome, IsEvaluation}
use Rattle.dw_unwind.specs.Caller.{Answer, value, undefined, unreadable, division_by_zero}
use Rattle.dw_unwind.specs.Caller.{content_plus, content, word, number_plus, if_value}
use Rattle.dw_unwind.specs.Caller.{answer_of, under, Gives, with_cfa, IsCfa, NeedsCfa, IsRegister, AreRegisters, Caller, IsCaller, Unwinds}

-- ---- a rule in a list of good rules is good (`IsGoodRule`)

if_good : (es : List LocatedExpression) (b : Bool) (x y : Rule) → IsGoodRule es x → IsGoodRule es y
    → IsGoodRule es (if b then x else y)
if_good es true x y g h = g
if_good es false x y g h = h

-- each rule of a list is good (`IsGoodEntry`)
abbrev AreGood : List LocatedExpression → List (ℕ × Rule) → Type 0
AreGood es rules = AllByRecursion (IsGoodEntry es) rules

rule_good : (es : List LocatedExpression) (rules : List (ℕ × Rule)) (r : ℕ) → AreGood es rules → IsGoodRule es (rule_in rules r)
rule_good es [] r good = tt
rule_good es (entry ∷ rules) r good =
    if_good es (entry.0 == r) entry.1 (rule_in rules r) good.0 (rule_good es rules r good.1)

-- ---- rules under an ABI are good too: the ABI's own rules name no expression

or_good : (es : List LocatedExpression) (x : Rule) (role : Role) → IsGoodRule es x → IsGoodRule es (or_rule x (rule_of_role role))
or_good es default unnamed good = tt
or_good es default kept good = tt
or_good es default stack_pointer good = tt
or_good es RuleOver.undefined role good = good
or_good es same_value role good = good
or_good es (offset n) role good = good
or_good es (val_offset n) role good = good
or_good es (register r) role good = good
or_good es (expression x) role good = good
or_good es (val_expression x) role good = good

rule_under_good : (es : List LocatedExpression) (abi : Abi) (rules : List (ℕ × Rule)) (r : ℕ) → AreGood es rules
    → IsGoodRule es (rule_under abi rules r)
rule_under_good es abi rules r good = or_good es (rule_in rules r) (abi r) (rule_good es rules r good)

under_good : (es : List LocatedExpression)
    → ((abi : Abi) (rules : List (ℕ × Rule)) → All (λ entry. entry.1 ≡ rule_under abi rules entry.0) (rules_under abi rules))
    → (abi : Abi) (rules : List (ℕ × Rule)) → AreGood es rules → AreGood es (rules_under abi rules)
under_good es each abi rules good =
    recursion_from_All (IsGoodEntry es) (rules_under abi rules)
    (λ k d lt. subst (IsGoodRule es) (sym (each abi rules k d lt)) (rule_under_good es abi rules _ good))

-- the expression as a `Checked` one, with this depth and the number of its operations
abbrev pub known : Kind → Target → List ℕ → ℕ → Checked
known kind target bytes depth =
    record { kind = kind; target = target; bytes = bytes; depth = depth; count = length (operations_in target bytes) }

-- an expression that is good among those of a section (`IsGoodAmong`) is good for the kind of its
-- rule
good_as : (es : List LocatedExpression) (kind : Kind) (x : LocatedExpression) → IsGoodAmong es kind x
    → IsGoodExpression kind x.target x.bytes
good_as es kind x good = subst (λ k. IsGoodExpression k x.target x.bytes) good.of_kind good.good

-- a caller from its parts; two callers with the same parts are the same
abbrev made : Answer → List (ℕ × Answer) → Answer → Caller
made cfa registers returned = record { cfa = cfa; registers = registers; return_address = returned }

same_parts : (a b : Answer) (xs ys : List (ℕ × Answer)) (v w : Answer) → a ≡ b → xs ≡ ys → v ≡ w → made a xs v ≡ made b ys w
same_parts a b xs ys v w x y z = rw (x, y, z) refl

-- ---- there is at most one caller

module _ (es : List LocatedExpression)
    (each : (abi : Abi) (rules : List (ℕ × Rule)) → All (λ entry. entry.1 ≡ rule_under abi rules entry.0) (rules_under abi rules))
    (only : (c : Checked) (e : World) (o p : Outcome) (n k : ℕ) → IsGoodExpression c.kind c.target c.bytes → IsEvaluation c e o n
    → IsEvaluation c e p k → (o ≡ p) × (n ≡ k)) where
  gives_one : (e : World) (x : LocatedExpression) (a b : Answer) (kind : Kind) → IsGoodAmong es kind x → Gives e kind x a
      → Gives e kind x b → a ≡ b
  gives_one e x a b kind good g h =
      let here = good_as es kind x good in
      g.3 ∙ ap answer_of (only (known kind x.target x.bytes 0) (under x.target e) g.0 h.0 g.1 h.1 here g.2 h.2).0 ∙ sym h.3

  cfa_one : (e : World) (rule : Option Cfa) (a b : Answer) → IfSome rule (IsGoodCfa es) → IsCfa e rule a → IsCfa e rule b → a ≡ b
  cfa_one e (Some (register_and_offset r n)) a b good g h = g ∙ sym h
  cfa_one e (Some (cfa_expression x)) a b good g h = gives_one e x a b FrameCfa good g h
  cfa_one e None a b good g h = g ∙ sym h

  needs_one : (cfa : Answer) (Is : ℕ → Answer → Type 0) (a b : Answer) → ((c : ℕ) → Is c a → Is c b → a ≡ b) → NeedsCfa cfa Is a
      → NeedsCfa cfa Is b → a ≡ b
  needs_one (value c) Is a b one g h = one c g h
  needs_one undefined Is a b one g h = g ∙ sym h
  needs_one unreadable Is a b one g h = g ∙ sym h
  needs_one division_by_zero Is a b one g h = g ∙ sym h

  register_one : (e : World) (cfa : Answer) (r : ℕ) (rule : Rule) (a b : Answer) → IsGoodRule es rule → IsRegister e cfa r rule a
      → IsRegister e cfa r rule b → a ≡ b
  register_one e cfa r default a b good g h = g ∙ sym h
  register_one e cfa r RuleOver.undefined a b good g h = g ∙ sym h
  register_one e cfa r same_value a b good g h = g ∙ sym h
  register_one e cfa r (offset n) a b good g h = g ∙ sym h
  register_one e cfa r (val_offset n) a b good g h = g ∙ sym h
  register_one e cfa r (register other) a b good g h = g ∙ sym h
  register_one e cfa r (expression y) a b good g h =
      needs_one cfa (λ c x. (address : Answer) × Gives (with_cfa e c) FrameRegister y address × (x ≡ if_value address (word e))) a b
      (λ c k l. k.2 ∙ ap (λ x. if_value x (word e)) (gives_one (with_cfa e c) y k.0 l.0 FrameRegister good k.1 l.1) ∙ sym l.2) g h
  register_one e cfa r (val_expression y) a b good g h =
      needs_one cfa (λ c x. Gives (with_cfa e c) FrameRegister y x) a b (λ c k l. gives_one (with_cfa e c) y a b FrameRegister good k l) g h

  registers_one : (e : World) (cfa : Answer) (rules : List (ℕ × Rule)) (xs ys : List (ℕ × Answer)) → AreGood es rules
      → AreRegisters e cfa rules xs → AreRegisters e cfa rules ys → xs ≡ ys
  registers_one e cfa [] [] [] good g h = refl
  registers_one e cfa [] [] (y ∷ ys) good g h = absurd h
  registers_one e cfa [] (x ∷ xs) ys good g h = absurd g
  registers_one e cfa (entry ∷ rules) [] ys good g h = absurd g
  registers_one e cfa (entry ∷ rules) (x ∷ xs) [] good g h = absurd h
  registers_one e cfa (entry ∷ rules) ((r, x) ∷ xs) ((s, y) ∷ ys) good g h =
      let number : r ≡ s = g.0 ∙ sym h.0 in
      let answer : x ≡ y = register_one e cfa entry.0 entry.1 x y good.0 g.1 h.1 in
      let rest : xs ≡ ys = registers_one e cfa rules xs ys good.1 g.2 h.2 in
      rw (number, answer, rest) refl

  caller_one : (e : World) (abi : Abi) (back : ℕ) (row : Row) (c d : Caller) → HasGoodExpressions es row → IsCaller e abi back row c
      → IsCaller e abi back row d → c ≡ d
  caller_one e abi back row c d good g h =
      let cfa : c.cfa ≡ d.cfa = cfa_one e row.cfa c.cfa d.cfa good.cfa g.cfa h.cfa in
      let rules = rules_under abi row.rules in
      let rules_good : AreGood es row.rules = recursion_from_All (IsGoodEntry es) row.rules good.rules in
      let all_good : AreGood es rules = under_good es each abi row.rules rules_good in
      let same = subst (λ a. AreRegisters e a rules c.registers) cfa g.registers in
      let registers : c.registers ≡ d.registers = registers_one e d.cfa rules c.registers d.registers all_good same h.registers in
      let rule = rule_under abi row.rules back in
      let returned = subst (λ a. IsRegister e a back rule c.return_address) cfa g.return_address in
      let return_address : c.return_address ≡ d.return_address =
      register_one e d.cfa back rule c.return_address d.return_address (rule_under_good es abi row.rules back rules_good)
      returned h.return_address in
      same_parts _ _ _ _ _ _ cfa registers return_address

  some_one : {X : Type 0} (o : Option X) (x y : X) → o ≡ Some x → o ≡ Some y → x ≡ y
  some_one o x y g h = cc

  pub unwinds_one : (e : World) (abi : Abi) (frame : FrameSection) (address : ℕ) (c d : Option Caller)
      → ((row : Row) → row_of frame address ≡ Some row → HasGoodExpressions es row)
      → Unwinds e abi frame address c → Unwinds e abi frame address d → c ≡ d
  unwinds_one e abi frame address None None good g h = refl
  unwinds_one e abi frame address None (Some d) good g h = absurd (g h.fde h.covers.0 h.covers.1)
  unwinds_one e abi frame address (Some c) None good g h = absurd (h g.fde g.covers.0 g.covers.1)
  unwinds_one e abi frame address (Some c) (Some d) good g h =
      let fde : g.fde ≡ h.fde = h.covers.2 g.fde g.covers.0 g.covers.1 in
      let here_too = subst (λ f. cie_in frame f ≡ Some g.cie) fde g.cie_is in
      let cie : g.cie ≡ h.cie = some_one (cie_in frame h.fde) g.cie h.cie here_too h.cie_is in
      let row : g.row ≡ h.row = some_one (row_of frame address) g.row h.row g.row_is h.row_is in
      let moved_row = subst (λ r. IsCaller e abi g.cie.return_address_register r c) row g.is in
      let here = subst (λ (x : Cie). IsCaller e abi x.return_address_register h.row c) cie moved_row in
      ap (λ x. Some x) (caller_one e abi h.cie.return_address_register h.row c d (good h.row h.row_is) here h.is)

-- ---- there is a caller

module _ (es : List LocatedExpression)
    (each : (abi : Abi) (rules : List (ℕ × Rule)) → All (λ entry. entry.1 ≡ rule_under abi rules entry.0) (rules_under abi rules))
    (deepest : (kind : Kind) (target : Target) (bytes : List ℕ) → IsGoodExpression kind target bytes
    → (d : ℕ) × IsDepthOf kind target bytes d)
    (has : (c : Checked) (e : World) → IsChecked c → (o : Outcome) × (n : ℕ) × IsEvaluation c e o n × (n ≤ c.count)) where
  gives_some : (e : World) (x : LocatedExpression) (kind : Kind) → IsGoodAmong es kind x → (a : Answer) × Gives e kind x a
  gives_some e x kind good =
      let here = good_as es kind x good in
      let depth = deepest kind x.target x.bytes here in
      let checked : IsChecked (known kind x.target x.bytes depth.0) = record { good = here; depth = depth.1; count = refl } in
      let found = has (known kind x.target x.bytes depth.0) (under x.target e) checked in
      (answer_of found.0, (found.0, found.1, found.2, refl))

  cfa_some : (e : World) (rule : Option Cfa) → IfSome rule (IsGoodCfa es) → (a : Answer) × IsCfa e rule a
  cfa_some e (Some (register_and_offset r n)) good = (content_plus e n (e.registers r), refl)
  cfa_some e (Some (cfa_expression x)) good = gives_some e x FrameCfa good
  cfa_some e None good = (unreadable, refl)

  needs_some : (cfa : Answer) (Is : ℕ → Answer → Type 0) → ((c : ℕ) → (a : Answer) × Is c a) → (a : Answer) × NeedsCfa cfa Is a
  needs_some (value c) Is some = some c
  needs_some undefined Is some = (undefined, refl)
  needs_some unreadable Is some = (unreadable, refl)
  needs_some division_by_zero Is some = (division_by_zero, refl)

  register_some : (e : World) (cfa : Answer) (r : ℕ) (rule : Rule) → IsGoodRule es rule → (a : Answer) × IsRegister e cfa r rule a
  register_some e cfa r default good = (undefined, refl)
  register_some e cfa r RuleOver.undefined good = (undefined, refl)
  register_some e cfa r same_value good = (content e r, refl)
  register_some e cfa r (offset n) good = (if_value cfa (λ c. word e (number_plus e n c)), refl)
  register_some e cfa r (val_offset n) good = (if_value cfa (λ c. value (number_plus e n c)), refl)
  register_some e cfa r (register other) good = (content e other, refl)
  register_some e cfa r (expression y) good =
      needs_some cfa (λ c x. (address : Answer) × Gives (with_cfa e c) FrameRegister y address × (x ≡ if_value address (word e)))
      (λ c. let found = gives_some (with_cfa e c) y FrameRegister good in (if_value found.0 (word e), (found.0, found.1, refl)))
  register_some e cfa r (val_expression y) good =
      needs_some cfa (λ c x. Gives (with_cfa e c) FrameRegister y x) (λ c. gives_some (with_cfa e c) y FrameRegister good)

  registers_some : (e : World) (cfa : Answer) (rules : List (ℕ × Rule)) → AreGood es rules
      → (xs : List (ℕ × Answer)) × AreRegisters e cfa rules xs
  registers_some e cfa [] good = ([], tt)
  registers_some e cfa (entry ∷ rules) good =
      let first = register_some e cfa entry.0 entry.1 good.0 in
      let rest = registers_some e cfa rules good.1 in
      ((entry.0, first.0) ∷ rest.0, (refl, first.1, rest.1))

  pub caller_some : (e : World) (abi : Abi) (back : ℕ) (row : Row) → HasGoodExpressions es row
      → (c : Caller) × IsCaller e abi back row c
  caller_some e abi back row good =
      let cfa = cfa_some e row.cfa good.cfa in
      let rules_good : AreGood es row.rules = recursion_from_All (IsGoodEntry es) row.rules good.rules in
      let registers = registers_some e cfa.0 (rules_under abi row.rules) (under_good es each abi row.rules rules_good) in
      let returned = register_some e cfa.0 back (rule_under abi row.rules back) (rule_under_good es abi row.rules back rules_good) in (
        record { cfa = cfa.0; registers = registers.0; return_address = returned.0 },
        record { cfa = cfa.1; registers = registers.1; return_address = returned.1 },
      )
