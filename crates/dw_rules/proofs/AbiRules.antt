-- How `Abi::new` builds the rules of an ABI, one register after the other.
use Rattle.std.proofs.Common.{◌≡◌, ◌≢◌, ℕ, zero, suc, ◌+◌, ◌<◌, ◌≤◌, Bool, true, false, cond, List, [], ◌∷◌, ◌++◌, length, Option}
use Rattle.std.proofs.Common.{None, Some, refl, sym, ap, ◌∙◌}
use Rattle.std.proofs.Common.{arith, eqb, ltb, ◌||◌, take, drop, get_or, inl, inr, subst, length-append}
use Rattle.std.specs.Prelude.{option_map}
use Rattle.dw_bytes.specs.declared.fault.Fault.{Fault}
use Rattle.std.proofs.Math.Path.{fun_ext}
use Rattle.std.proofs.lemmas.Bool.{le-ltb, cases_lt}
use Rattle.std.proofs.lemmas.List.{drop_more, take_more, length-take-le, take_all, drop_all}
use Rattle.std.proofs.lemmas.Bool.Decides.{nat_tests}
use Rattle.std.specs.Prelude.{pos}
use Rattle.std.specs.Option.{option_to_list}
use Rattle.dw_rules.specs.Rules.{PlacedRule, default, same_value, val_offset, rule_in, IsTable, rule_list, changed_at}
use Rattle.dw_bytes.specs.declared.fault.FaultKind.TheVariants.{AbiTooLarge, AbiTwice}
use Rattle.dw_rules.specs.declared.abi.TheConstants.{MAX_KEPT}
use Rattle.dw_rules.specs.Abi.{kept, unnamed, stack_pointer, is_among, abi_of, rule_of_role, abi_fault, place_of_second}
use Rattle.dw_rules.specs.AbiViews.{role_of_rule, roles_of, AreRoles}
use Rattle.dw_rules.proofs.Tables.{Clears, full-count, rule_list-table, rule_list-same, rule_in-rule_list, IsTable-rule_list}

-- the rule of register r under the ABI with these callee-saved registers and this stack pointer;
-- Default if r is none of them
abbrev pub abi_rule : List ℕ → Option ℕ → ℕ → PlacedRule
abi_rule registers pointer r =
    cond (is_among r (option_to_list pointer)) (val_offset (pos 0)) (cond (is_among r registers) same_value default)

-- giving a rule to a register without one makes the list of rules longer by one
pub one-more : (es : List (ℕ × PlacedRule)) (q : ℕ) (x : PlacedRule) → q < 65536 → x ≢ default → IsTable 0 es → rule_in es q ≡ default
    → length (rule_list (changed_at (rule_in es) q x)) ≡ length es + 1
one-more es q x b some t none = full-count es es q x b some clears
  where
    same : (r : ℕ) → rule_in es r ≡ changed_at (rule_in es) q default r
    same r = grind (arith, nat_tests, none, ap (rule_in es))

    clears : Clears es q es
    clears = record { table = t; rules = sym (rule_list-table es t) ∙ rule_list-same _ _ (λ r h. same r) }

-- ---- the registers that were added so far

among-more : (r : ℕ) (before : List ℕ) (n : ℕ) → is_among r (before ++ n ∷ []) ≡ (is_among r before || eqb n r)
among-more r [] n = grind (arith, nat_tests)
among-more r (x ∷ before) n = let later = among-more r before n in grind (arith, nat_tests)

abbrev kept-rule : Bool → PlacedRule
kept-rule b = cond b same_value default

same-is-some : ◌≡◌ {A = PlacedRule} same_value default → ⊥
same-is-some h = cc

pub named-none : (before : List ℕ) (rules : List (ℕ × PlacedRule)) (n : ℕ) → rules ≡ rule_list (abi_rule before None) → n < 65536
    → rule_in rules n ≡ default → is_among n before ≡ false
named-none before rules n is b none =
    go (is_among n before) (sym (ap (λ l. rule_in l n) is ∙ rule_in-rule_list (abi_rule before None) n b) ∙ none)
  where
    go : (among : Bool) → kept-rule among ≡ default → among ≡ false
    go true h = absurd (same-is-some h)
    go false h = refl

pub named-some : (before : List ℕ) (rules : List (ℕ × PlacedRule)) (n : ℕ) → rules ≡ rule_list (abi_rule before None) → n < 65536
    → rule_in rules n ≢ default → is_among n before ≡ true
named-some before rules n is b some =
    go (is_among n before) (ap (λ l. rule_in l n) is ∙ rule_in-rule_list (abi_rule before None) n b)
  where
    go : (among : Bool) → rule_in rules n ≡ kept-rule among → among ≡ true
    go true h = refl
    go false h = absurd (some h)

-- if the rules are those for the callee-saved registers `before`, giving SameValue to n makes them
-- those for `before` with n at the end
pub keeps-more : (before : List ℕ) (rules : List (ℕ × PlacedRule)) (n : ℕ) → rules ≡ rule_list (abi_rule before None)
    → rule_list (changed_at (rule_in rules) n same_value) ≡ rule_list (abi_rule (before ++ n ∷ []) None)
keeps-more before rules n is = rule_list-same _ _ each
  where
    go : (here among : Bool) → cond here same_value (kept-rule among) ≡ kept-rule (among || here)
    go true true = refl
    go true false = refl
    go false true = refl
    go false false = refl

    each : (r : ℕ) → r < 65536 → changed_at (rule_in rules) n same_value r ≡ abi_rule (before ++ n ∷ []) None r
    each r h =
        let listed : rule_in rules r ≡ kept-rule (is_among r before) =
        ap (λ l. rule_in l r) is ∙ rule_in-rule_list (abi_rule before None) r h in
        ap (cond (eqb n r) same_value) listed ∙ go (eqb n r) (is_among r before) ∙ ap kept-rule (sym (among-more r before n))

-- if the rules are those for the callee-saved registers `before`, giving ValOffset(0) to n makes
-- them those for `before` with n as the stack pointer
pub points-more : (before : List ℕ) (rules : List (ℕ × PlacedRule)) (n : ℕ) → rules ≡ rule_list (abi_rule before None)
    → rule_list (changed_at (rule_in rules) n (val_offset (pos 0))) ≡ rule_list (abi_rule before (Some n))
points-more before rules n is = rule_list-same _ _ each
  where
    go : (here among : Bool)
        → cond here (val_offset (pos 0)) (kept-rule among) ≡ cond (here || false) (val_offset (pos 0)) (kept-rule among)
    go true among = refl
    go false among = refl

    each : (r : ℕ) → r < 65536 → changed_at (rule_in rules) n (val_offset (pos 0)) r ≡ abi_rule before (Some n) r
    each r h =
        let listed : rule_in rules r ≡ kept-rule (is_among r before) =
        ap (λ l. rule_in l r) is ∙ rule_in-rule_list (abi_rule before None) r h in
        ap (cond (eqb n r) (val_offset (pos 0))) listed ∙ go (eqb n r) (is_among r before)

-- ---- the index of the first number that has occurred before

pub second-here : (before : List ℕ) (n : ℕ) (rest : List ℕ) → is_among n before ≡ true
    → place_of_second before (n ∷ rest) ≡ Some (length before)
second-here before n rest among = rw among refl

pub second-later : (before : List ℕ) (n : ℕ) (rest : List ℕ) → is_among n before ≡ false
    → place_of_second before (n ∷ rest) ≡ place_of_second (before ++ n ∷ []) rest
second-later before n rest other = rw other refl

-- ---- the first fault of an ABI

pub fault-at : (registers : List ℕ) (pointer : Option ℕ) (at : ℕ) → length registers ≤ MAX_KEPT
    → place_of_second [] (registers ++ option_to_list pointer) ≡ Some at
    → abi_fault registers pointer ≡ Some (record { kind = AbiTwice; at = at })
fault-at registers pointer at few is = rw (le-ltb MAX_KEPT (length registers) few, is) refl

pub no-fault : (registers : List ℕ) (pointer : Option ℕ) → length registers ≤ MAX_KEPT
    → place_of_second [] (registers ++ option_to_list pointer) ≡ None → abi_fault registers pointer ≡ None
no-fault registers pointer few is = rw (le-ltb MAX_KEPT (length registers) few, is) refl

-- ---- the loop over the callee-saved registers: what is known after some of them

pub record KeepsUpTo (registers past : List ℕ) (place : ℕ) (rules : List (ℕ × PlacedRule)) : Type 0 where
  pub are : rules ≡ rule_list (abi_rule (take place registers) None)
  pub few : length rules ≤ place
  pub second : place_of_second [] (registers ++ past) ≡ place_of_second (take place registers) (drop place registers ++ past)

next-of : (registers past : List ℕ) (place : ℕ) → place < length registers
    → place_of_second (take place registers) (drop place registers ++ past)
    ≡ place_of_second (take place registers) (get_or registers place 0 ∷ drop (place + 1) registers ++ past)
next-of registers past place lt = ap (λ l. place_of_second (take place registers) (l ++ past)) (drop_more registers place 0 lt)

pub twice-among : (registers past : List ℕ) (place : ℕ) (rules : List (ℕ × PlacedRule)) → KeepsUpTo registers past place rules
    → place < length registers → get_or registers place 0 < 65536 → rule_in rules (get_or registers place 0) ≢ default
    → place_of_second [] (registers ++ past) ≡ Some place
twice-among registers past place rules k lt fits some =
    k.second ∙ next-of registers past place lt
    ∙ second-here (take place registers) (get_or registers place 0) (drop (place + 1) registers ++ past)
    (named-some (take place registers) rules (get_or registers place 0) k.are fits some)
    ∙ ap (λ n. Some n) (length-take-le place registers (omega (arith, lt)))

pub keeps-next : (registers past : List ℕ) (place : ℕ) (rules new : List (ℕ × PlacedRule)) → KeepsUpTo registers past place rules
    → place < length registers → get_or registers place 0 < 65536 → rule_in rules (get_or registers place 0) ≡ default
    → new ≡ rule_list (changed_at (rule_in rules) (get_or registers place 0) same_value) → length new ≤ length rules + 1
    → KeepsUpTo registers past (place + 1) new
keeps-next registers past place rules new k lt fits none is few = record {
  are = is ∙ keeps-more (take place registers) rules (get_or registers place 0) k.are
      ∙ ap (λ l. rule_list (abi_rule l None)) (sym (take_more registers place 0 lt));
  few = omega (arith, few, k.few);
  second = k.second ∙ next-of registers past place lt
      ∙ second-later (take place registers) (get_or registers place 0) (drop (place + 1) registers ++ past)
      (named-none (take place registers) rules (get_or registers place 0) k.are fits none)
      ∙ ap (λ l. place_of_second l (drop (place + 1) registers ++ past)) (sym (take_more registers place 0 lt));
}

-- after the loop the rules are those for all callee-saved registers, and none of these registers
-- was named twice
pub keeps-all : (registers past : List ℕ) (place : ℕ) (rules : List (ℕ × PlacedRule)) → KeepsUpTo registers past place rules
    → length registers ≤ place → place ≤ length registers → (rules ≡ rule_list (abi_rule registers None))
    × (place_of_second [] (registers ++ past) ≡ place_of_second registers past)
keeps-all registers past place rules k ge le =
    let all : take place registers ≡ registers = take_all place registers ge in
    let none : drop place registers ≡ [] = drop_all place registers ge in (
      k.are ∙ ap (λ l. rule_list (abi_rule l None)) all,
      k.second ∙ ap (λ l. place_of_second l (drop place registers ++ past)) all ∙ ap (λ l. place_of_second registers (l ++ past)) none,
    )

-- ---- the result of `Abi::new`

-- each number is less than 2^16
abbrev pub AreRegisters : List ℕ → Type 0
AreRegisters registers = (i : ℕ) → get_or registers i 0 < 65536

not-among : (registers : List ℕ) (r : ℕ) → AreRegisters registers → 65536 ≤ r → is_among r registers ≡ false
not-among [] r fit high = refl
not-among (n ∷ registers) r fit high =
    let other : eqb n r ≡ false = let below : n < 65536 = fit 0 in grind (arith, nat_tests, below, high) in
    let later = not-among registers r (λ i. fit (suc i)) high in grind (arith, nat_tests, other, later)

none-above : (low : ℕ) (es : List (ℕ × PlacedRule)) (r : ℕ) → IsTable low es → 65536 ≤ r → rule_in es r ≡ default
none-above low [] r t high = refl
none-above low (e ∷ es) r t high =
    let other : eqb e.0 r ≡ false = let below : e.0 < 65536 = t.1 in grind (arith, nat_tests, below, high) in
    rw other (none-above (e.0 + 1) es r t.3 high)

-- `roles_of` reads from a table with the rules of `abi_rule` the roles that `abi_of` defines
pub has-roles : (registers : List ℕ) (pointer : Option ℕ) (rules : List (ℕ × PlacedRule)) → AreRegisters registers
    → AreRegisters (option_to_list pointer) → rules ≡ rule_list (abi_rule registers pointer) → roles_of rules ≡ abi_of registers pointer
has-roles registers pointer rules fit fits is = fun_ext each
  where
    go : (here among : Bool) → role_of_rule (cond here (val_offset (pos 0)) (cond among same_value default))
        ≡ cond here stack_pointer (cond among kept unnamed)
    go true among = refl
    go false true = refl
    go false false = refl

    table : IsTable 0 rules
    table = subst (IsTable 0) (sym is) (IsTable-rule_list (abi_rule registers pointer))

    each : (r : ℕ) → roles_of rules r ≡ abi_of registers pointer r
    each r = elim (cases_lt r 65536) [
      | inl h ↦
          ap role_of_rule (ap (λ l. rule_in l r) is ∙ rule_in-rule_list (abi_rule registers pointer) r h)
          ∙ go (is_among r (option_to_list pointer)) (is_among r registers)
      | inr high ↦
          ap role_of_rule (none-above 0 rules r table high)
          ∙ sym (rw (not-among (option_to_list pointer) r fits high, not-among registers r fit high) refl)
    ]

pub are-roles : (registers : List ℕ) (pointer : Option ℕ) (rules : List (ℕ × PlacedRule)) → rules ≡ rule_list (abi_rule registers pointer)
    → AreRoles rules
are-roles registers pointer rules is r = elim (cases_lt r 65536) [
  | inl h ↦
      subst (λ x. x ≡ rule_of_role (role_of_rule x))
      (sym (ap (λ l. rule_in l r) is ∙ rule_in-rule_list (abi_rule registers pointer) r h))
      (go (is_among r (option_to_list pointer)) (is_among r registers))
  | inr high ↦
      subst (λ x. x ≡ rule_of_role (role_of_rule x))
      (sym (none-above 0 rules r (subst (IsTable 0) (sym is) (IsTable-rule_list (abi_rule registers pointer))) high)) refl
]
  where
    rule : Bool → Bool → PlacedRule
    rule here among = cond here (val_offset (pos 0)) (cond among same_value default)

    go : (here among : Bool) → rule here among ≡ rule_of_role (role_of_rule (rule here among))
    go true among = refl
    go false true = refl
    go false false = refl

pub fits-pointer : (pointer : Option ℕ) (n : ℕ) → pointer ≡ Some n → n < 65536 → AreRegisters (option_to_list pointer)
fits-pointer pointer n is fit = subst (λ (o : Option ℕ). AreRegisters (option_to_list o)) (sym is) first
  where
    first : AreRegisters (n ∷ [])
    first zero = fit
    first (suc i) = omega arith

pub fits-none : (pointer : Option ℕ) → pointer ≡ None → AreRegisters (option_to_list pointer)
fits-none pointer is = subst (λ (o : Option ℕ). AreRegisters (option_to_list o)) (sym is) (λ i. omega arith)

pub is-none : (o : Option ℕ) → ((n : ℕ) → o ≡ Some n → ⊥) → o ≡ None
is-none None other = refl
is-none (Some n) other = absurd (other n refl)

-- if the loop over the callee-saved registers reached their end and there is no stack pointer, the
-- ABI has no fault and the rules are those of `abi_rule`
pub made-without : (registers : List ℕ) (pointer : Option ℕ) (place : ℕ) (rules : List (ℕ × PlacedRule)) → length registers ≤ MAX_KEPT
    → KeepsUpTo registers (option_to_list pointer) place rules → length registers ≤ place → place ≤ length registers → pointer ≡ None
    → (abi_fault registers pointer ≡ None) × (rules ≡ rule_list (abi_rule registers pointer))
made-without registers pointer place rules few k ge le none =
    let all = keeps-all registers (option_to_list pointer) place rules k ge le in (
      no-fault registers pointer few (all.1 ∙ ap (λ (o : Option ℕ). place_of_second registers (option_to_list o)) none),
      all.0 ∙ ap (λ (o : Option ℕ). rule_list (abi_rule registers o)) (sym none),
    )

-- if the loop over the callee-saved registers reached their end and the stack pointer is one of
-- them, the fault is AbiTwice, and its index is the number of callee-saved registers
pub kept-pointer : (registers : List ℕ) (pointer : Option ℕ) (place : ℕ) (rules : List (ℕ × PlacedRule)) (n : ℕ)
    → length registers ≤ MAX_KEPT
    → KeepsUpTo registers (option_to_list pointer) place rules → length registers ≤ place → place ≤ length registers → pointer ≡ Some n
    → n < 65536 → rule_in rules n ≢ default
    → abi_fault registers pointer ≡ Some (record { kind = AbiTwice; at = length registers })
kept-pointer registers pointer place rules n few k ge le is fits some =
    let all = keeps-all registers (option_to_list pointer) place rules k ge le in
    fault-at registers pointer (length registers) few
    (all.1 ∙ ap (λ (o : Option ℕ). place_of_second registers (option_to_list o)) is
    ∙ second-here registers n [] (named-some registers rules n all.0 fits some))

-- if the loop over the callee-saved registers reached their end and the stack pointer isn't one of
-- them, the ABI has no fault and the rules are those of `abi_rule`
pub made-with : (registers : List ℕ) (pointer : Option ℕ) (place : ℕ) (rules new : List (ℕ × PlacedRule)) (n : ℕ)
    → length registers ≤ MAX_KEPT
    → KeepsUpTo registers (option_to_list pointer) place rules → length registers ≤ place → place ≤ length registers → pointer ≡ Some n
    → n < 65536 → rule_in rules n ≡ default → new ≡ rule_list (changed_at (rule_in rules) n (val_offset (pos 0)))
    → (abi_fault registers pointer ≡ None) × (new ≡ rule_list (abi_rule registers pointer))
made-with registers pointer place rules new n few k ge le is fits none made =
    let all = keeps-all registers (option_to_list pointer) place rules k ge le in (
      no-fault registers pointer few (all.1 ∙ ap (λ (o : Option ℕ). place_of_second registers (option_to_list o)) is
          ∙ second-later registers n [] (named-none registers rules n all.0 fits none)),
      made ∙ points-more registers rules n all.0 ∙ ap (λ (o : Option ℕ). rule_list (abi_rule registers o)) (sym is),
    )

-- ---- the index that a fault names

second-inside : (before rest : List ℕ) (at : ℕ) → place_of_second before rest ≡ Some at → at < length before + length rest
second-inside before [] at is = absurd (cc)
second-inside before (n ∷ rest) at is = go (is_among n before) is (λ h. second-inside (before ++ n ∷ []) rest at h)
  where
    go : (among : Bool) → cond among (Some (length before)) (place_of_second (before ++ n ∷ []) rest) ≡ Some at
        → (place_of_second (before ++ n ∷ []) rest ≡ Some at → at < length (before ++ n ∷ []) + length rest)
        → at < length before + length (n ∷ rest)
    go true h later = let same : length before ≡ at = cc in omega (arith, same)
    go false h later = omega (arith, later h, length-append before (n ∷ []))

few-named : (pointer : Option ℕ) → length (option_to_list pointer) ≤ 1
few-named None = omega arith
few-named (Some n) = omega arith

abbrev pub twice : ℕ → Fault
twice at = record { kind = AbiTwice; at = at }

-- the index that a fault names is at most the number of callee-saved registers
pub abi-stands : (registers : List ℕ) (pointer : Option ℕ) (fault : Fault) → abi_fault registers pointer ≡ Some fault
    → fault.at ≤ length registers
abi-stands registers pointer fault is = go (ltb MAX_KEPT (length registers)) refl is
  where
    found : (o : Option ℕ) → place_of_second [] (registers ++ option_to_list pointer) ≡ o → option_map twice o ≡ Some fault
        → fault.at ≤ length registers
    found None e h = absurd (cc)
    found (Some at) e h =
        let same : twice at ≡ fault = cc in
        let here : at ≡ fault.at = ap (λ (f : Fault). f.at) same in
        omega (
          arith,
          here,
          second-inside [] (registers ++ option_to_list pointer) at e,
          length-append registers (option_to_list pointer),
          few-named pointer,
        )

    go : (large : Bool) → ltb MAX_KEPT (length registers) ≡ large
        → cond large (Some (record { kind = AbiTooLarge; at = MAX_KEPT }))
        (option_map twice (place_of_second [] (registers ++ option_to_list pointer)))
        ≡ Some fault → fault.at ≤ length registers
    go true e h =
        let same : ◌≡◌ {A = Fault} (record { kind = AbiTooLarge; at = MAX_KEPT }) fault = cc in
        let here : MAX_KEPT ≡ fault.at = ap (λ (f : Fault). f.at) same in
        let many : MAX_KEPT < length registers = grind (arith, nat_tests, e) in omega (arith, here, many)
    go false e h = found (place_of_second [] (registers ++ option_to_list pointer)) refl h
