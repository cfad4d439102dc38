-- When the programs of CIEs and FDEs are good, in the standard's words: remember_states and
-- restore_states match, the location never goes back, and rows have CFA rules (DWARF 5, sections
-- 6.4.1 and 6.4.2).
use Rattle.std.specs.Prelude.{◌≡◌, ◌≢◌, ℕ, ◌+◌, ◌<◌, ◌≤◌, List, [], ◌∷◌, ◌++◌, length, take, reverse, Option, Some, None, slice_get, true}
use Rattle.std.specs.Prelude.{false, Contains}
use Rattle.dw_frame.specs.Instructions.{Instruction}
use Rattle.dw_frame.specs.Records.{Cie, Fde}
use Rattle.dw_frame.specs.Codes.{AreInstructions}
use Rattle.dw_stack.specs.Expressions.{IsGoodExpression}
use Rattle.dw_stack.specs.Located.{LocatedExpression}
use Rattle.dw_rules.specs.declared.register_rules.TheConstants.{MAX_RULES}
use Rattle.dw_rules.specs.declared.remember_stack.TheConstants.{MAX_REMEMBERED}
use Rattle.dw_rules.specs.Rules.{PlacedRule, PlacedCfa, rule_count}
use Rattle.dw_rules.specs.Effects.{Effect, effects_by, sets_loc, remembers_state, restores_state, needs_register_cfa, overflows, is_barred}
use Rattle.dw_rules.specs.Expressions.{expressions_in}
use Rattle.dw_rules.specs.InForce.{Start, location_of, rule_at, cfa_at, not_register_cfa, cie_start, start_after_cie}

-- the effects of the first k instructions, in reverse order
abbrev pub prefix : List Effect → ℕ → List Effect
prefix program k = reverse (take k program)

-- after the first k instructions: the location, the rule of register r, and the CFA's rule
abbrev pub location_after : Start → List Effect → ℕ → ℕ
location_after s program k = location_of s (prefix program k)

abbrev pub rule_after : Start → List Effect → ℕ → ℕ → PlacedRule
rule_after s program k r = rule_at s (prefix program k) 0 r

abbrev pub cfa_after : Start → List Effect → ℕ → Option PlacedCfa
cfa_after s program k = cfa_at s (prefix program k) 0

-- ---- remember_states and their restore_states

-- how many remember_states there are, and how many restore_states
abbrev pub remembers : List Effect → ℕ
remembers [] = 0
remembers (remembers_state ∷ xs) = remembers xs + 1
remembers (_ ∷ xs) = remembers xs

abbrev pub restores_in : List Effect → ℕ
restores_in [] = 0
restores_in (restores_state ∷ xs) = restores_in xs + 1
restores_in (_ ∷ xs) = restores_in xs

-- There are as many restore_states as remember_states, and no prefix has more restore_states than
-- remember_states.
pub record IsBalanced (xs : List Effect) : Type 0 where
  pub equal : remembers xs ≡ restores_in xs
  pub each : (front back : List Effect) → xs ≡ front ++ back → restores_in front ≤ remembers front

-- The restore_state at index j matches the remember_state at index i: what is strictly between them
-- is balanced. Indices count from 0.
pub record Match (program : List Effect) (i j : ℕ) : Type 0 where
  pub front : List Effect
  pub between : List Effect
  pub back : List Effect
  pub whole : program ≡ front ++ remembers_state ∷ (between ++ restores_state ∷ back)
  pub at_remember : length front ≡ i
  pub at_restore : i + 1 + length between ≡ j
  pub balanced : IsBalanced between

-- ---- the row of an address

-- k is the greatest number of instructions after which the location is at most the address a
pub record IsLast (s : Start) (program : List Effect) (a k : ℕ) : Type 0 where
  pub within : k ≤ length program
  pub reached : location_after s program k ≤ a
  pub last : (m : ℕ) → k < m → m ≤ length program → a < location_after s program m

-- ---- good programs

-- the conditions on an FDE's instructions
pub record IsGood (s : Start) (program : List Effect) : Type 0 where
  -- the location never goes back and never passes the end, and the address of a set_loc is above
  -- the location before it
  pub forward : (k : ℕ) → k < length program → location_after s program k ≤ location_after s program (k + 1)
  pub within : (k : ℕ) → k ≤ length program → location_after s program k ≤ s.end
  pub above : (k a : ℕ) → slice_get program k ≡ Some (sets_loc a) → location_after s program k < a
  -- each restore_state matches a remember_state, and each remember_state a restore_state; at no
  -- point are more than MAX_REMEMBERED remember_states without their restore_state
  pub restored : (j : ℕ) → slice_get program j ≡ Some restores_state → (i : ℕ) × Match program i j
  pub remembered : (i : ℕ) → slice_get program i ≡ Some remembers_state → (j : ℕ) × Match program i j
  pub shallow : (k : ℕ) → k ≤ length program → remembers (take k program) ≤ restores_in (take k program) + MAX_REMEMBERED
  -- When an instruction changes only the register or only the offset of the CFA's rule, that rule
  -- is a register and an offset. Offsets fit in 64 bits. At most MAX_RULES registers have a rule
  -- other than default.
  pub kind : (k : ℕ) (x : Effect) → slice_get program k ≡ Some x → needs_register_cfa x ≡ true
      → not_register_cfa (cfa_after s program k) ≡ false
  pub narrow : (k : ℕ) (x : Effect) → slice_get program k ≡ Some x → overflows x ≡ false
  pub few : (k : ℕ) → k < length program → rule_count (rule_after s program (k + 1)) ≤ MAX_RULES
  -- each covered address has a row with a CFA rule
  pub covered : (a k : ℕ) → s.location ≤ a → a < s.end → IsLast s program a k → cfa_after s program k ≢ None

-- the conditions on the instructions of the CIE `cie`
pub record IsGoodCie (cie : Cie) (program : List Effect) : Type 0 where
  -- A CIE's program may contain the instruction. The other three conditions are the conditions with
  -- these names in `IsGood`.
  pub allowed : (k : ℕ) (x : Effect) → slice_get program k ≡ Some x → is_barred x ≡ false
  pub kind : (k : ℕ) (x : Effect) → slice_get program k ≡ Some x → needs_register_cfa x ≡ true
      → not_register_cfa (cfa_after (cie_start cie) program k) ≡ false
  pub narrow : (k : ℕ) (x : Effect) → slice_get program k ≡ Some x → overflows x ≡ false
  pub few : (k : ℕ) → k < length program → rule_count (rule_after (cie_start cie) program (k + 1)) ≤ MAX_RULES

-- each expression of the instructions is good (`IsGoodExpression`), as an expression of its kind
abbrev pub AreGoodExpressions : List (ℕ × Instruction) → Type 0
AreGoodExpressions items = (e : LocatedExpression) → Contains (expressions_in items) e → IsGoodExpression e.kind e.target e.bytes

-- A CIE's program is good: its bytes encode instructions that meet `IsGoodCie`, and their
-- expressions are good.
pub record IsGoodCieProgram (cie : Cie) : Type 0 where
  pub items : List (ℕ × Instruction)
  pub encoded : AreInstructions cie.program.dialect cie.program.target cie.program.position cie.program.rest items
  pub good : IsGoodCie cie (effects_by cie items)
  pub expressions : AreGoodExpressions items

-- An FDE's program is good: its CIE's program is good, its bytes encode instructions that meet
-- `IsGood` if they start with the rules that the CIE's program leaves, and their expressions are
-- good.
pub record IsGoodFdeProgram (cie : Cie) (fde : Fde) : Type 0 where
  pub first : IsGoodCieProgram cie
  pub items : List (ℕ × Instruction)
  pub encoded : AreInstructions fde.program.dialect fde.program.target fde.program.position fde.program.rest items
  pub good : IsGood (start_after_cie cie (reverse (effects_by cie first.items)) fde) (effects_by cie items)
  pub expressions : AreGoodExpressions items
