-- What an ABI says about registers. DWARF 5, section 6.4.1, leaves the meaning of a register
-- without a rule to the ABI. Which statements an ABI can make here is this project's choice.
use Rattle.std.specs.Prelude.{◌≡◌, ℕ, ◌≤◌, Bool, true, pos, nat_eq, nat_lt, if◌then◌else◌, List, [], ◌∷◌, ◌++◌, length, ◌==◌, take}
use Rattle.std.specs.Prelude.{Option, Some, None, option_map, slice_get}
use Rattle.std.specs.List.{list_any, IsDistinct}
use Rattle.std.specs.Option.{option_to_list}
use Rattle.dw_bytes.specs.declared.fault.Fault.{Fault}
use Rattle.dw_bytes.specs.declared.fault.FaultKind.TheVariants.{AbiTooLarge, AbiTwice}
use Rattle.dw_rules.specs.Rules.{RuleOver, Rule, default, same_value, val_offset, rule_in, rule_list}
use Rattle.dw_rules.specs.declared.abi.TheConstants.{MAX_KEPT}

-- What an ABI says about a register: nothing, that it is callee-saved, or that it is the stack
-- pointer.
pub data Role : Type 0 where
  unnamed : Role
  kept : Role
  stack_pointer : Role

abbrev pub Abi : Type 0
Abi = ℕ → Role

abbrev pub is_among : ℕ → List ℕ → Bool
is_among r registers = list_any (λ n. n == r) registers

-- the ABI with the callee-saved registers `registers` and the stack pointer `pointer`
abbrev pub abi_of : List ℕ → Option ℕ → Abi
abi_of registers pointer r =
    if is_among r (option_to_list pointer) then stack_pointer
    else (if is_among r registers then kept else unnamed)

-- the ABI that says nothing
abbrev pub no_abi : Abi
no_abi r = unnamed

-- ---- a row's rules under an ABI

-- The rule that an ABI gives a register without a rule in the row: a callee-saved register still
-- has the caller's value, and the stack pointer's value in the caller is the CFA. It is default for
-- a register that the ABI doesn't name.
abbrev pub rule_of_role : {E : Type 0} → Role → RuleOver E
rule_of_role unnamed = default
rule_of_role kept = same_value
rule_of_role stack_pointer = val_offset (pos 0)

-- the first rule, or the second one if the first is default
abbrev pub or_rule : {E : Type 0} → RuleOver E → RuleOver E → RuleOver E
or_rule default other = other
or_rule rule other = rule

-- the row's rule for a register, or the rule that the ABI gives it if the row has none
abbrev pub rule_under : Abi → List (ℕ × Rule) → ℕ → Rule
rule_under abi rules r = or_rule (rule_in rules r) (rule_of_role (abi r))

-- each register whose rule under an ABI isn't default, with that rule, in ascending order of
-- registers
abbrev pub rules_under : Abi → List (ℕ × Rule) → List (ℕ × Rule)
rules_under abi rules = rule_list (rule_under abi rules)

-- ---- what can be an ABI

-- There are at most MAX_KEPT callee-saved registers, and no register number occurs twice among them
-- and the stack pointer.
pub record CanBeAbi (registers : List ℕ) (pointer : Option ℕ) : Type 0 where
  pub few : length registers ≤ MAX_KEPT
  pub distinct : IsDistinct nat_eq (registers ++ option_to_list pointer)

-- `place` is the index of the first number in the list that repeats an earlier one
pub record StandsAgain (numbers : List ℕ) (place : ℕ) : Type 0 where
  pub number : ℕ
  pub here : slice_get numbers place ≡ Some number
  pub again : is_among number (take place numbers) ≡ true
  pub first : IsDistinct nat_eq (take place numbers)

-- ---- the first fault

-- The index of the first number in `before ++ rest` that repeats an earlier one, or none if no
-- number occurs twice. `before` has the numbers that were looked at already, which are distinct.
abbrev pub place_of_second : List ℕ → List ℕ → Option ℕ
place_of_second before [] = None
place_of_second before (n ∷ rest) = if is_among n before then Some (length before) else place_of_second (before ++ n ∷ []) rest

-- The fault of an ABI, or none: first AbiTooLarge if there are too many callee-saved registers, and
-- then AbiTwice at the index of the first number that repeats an earlier one. Indices count through
-- the callee-saved registers, and then the stack pointer.
abbrev pub abi_fault : List ℕ → Option ℕ → Option Fault
abi_fault registers pointer =
    if nat_lt MAX_KEPT (length registers) then Some (record { kind = AbiTooLarge; at = MAX_KEPT })
    else option_map (λ at. record { kind = AbiTwice; at = at }) (place_of_second [] (registers ++ option_to_list pointer))
