-- The caller of a frame, computed by the rules of a row: its CFA, its registers, and its return
-- address (DWARF 5, section 6.4.1).
use Rattle.std.specs.Prelude.{◌≡◌, ℕ, ◌+◌, ◌^◌, nat_le, ℤ, pos, ◌+ℤ◌, if◌then◌else◌, List, [], ◌∷◌, length, Option, Some, None, Contains}
use Rattle.dw_bytes.specs.declared.target.Target.{Target}
use Rattle.dw_bytes.specs.Encoding.{bytes_of_address}
use Rattle.dw_frame.specs.Records.{Cie, Fde}
use Rattle.dw_rules.specs.Rules.{Rule, Cfa, register_and_offset, cfa_expression, Row, RuleOver, default, same_value, offset}
use Rattle.dw_rules.specs.Rules.{val_offset, register, expression, val_expression}
use Rattle.dw_rules.specs.Abi.{Abi, rule_under, rules_under}
use Rattle.dw_stack.specs.Located.{LocatedExpression}
use Rattle.dw_stack.specs.declared.state.Kind.{Kind}
use Rattle.dw_stack.specs.declared.state.Kind.TheVariants.{FrameCfa, FrameRegister}
use Rattle.dw_rows.specs.Section.{FrameSection, Covers, IsCoverOf, cie_in, row_of}
use Rattle.dw_stack.specs.Expressions.{operations_in}
use Rattle.dw_eval.specs.Numbers.{wrap}
use Rattle.dw_eval.specs.World.{World, width, number_at}
use Rattle.dw_eval.specs.Results as results
use Rattle.dw_eval.specs.Results.{Outcome, IsRun}

-- What unwinding finds for a caller's CFA, for one of its registers, or for its return address.
-- `value` is its value. `undefined` says that it isn't available. `unreadable` says that a register
-- or a byte of memory that is needed isn't known, or that a read would go past 2^w - 1 (w is the
-- size of an address in bits). `division_by_zero` says that an expression divides by zero. A rule
-- that needs the CFA also fails if the CFA does, for the same reason.
pub data Answer : Type 0 where
  value : ℕ → Answer
  undefined : Answer
  unreadable : Answer
  division_by_zero : Answer

-- ---- the inputs

-- the `World` (dw_eval/specs/World.antt) with this target, registers and memory, and without a CFA,
-- a frame base or an object
abbrev pub machine : Target → (ℕ → Option ℕ) → (ℕ → Option ℕ) → World
machine target registers memory =
    record { target = target; registers = registers; memory = memory; cfa = None; frame_base = None; object = None }

-- the world `e` with the CFA `c`, and without a frame base or an object
abbrev pub with_cfa : World → ℕ → World
with_cfa e c =
    record { target = e.target; registers = e.registers; memory = e.memory; cfa = Some c; frame_base = None; object = None }

-- the world `e` with another target, since an expression runs under the target of its section
abbrev pub under : Target → World → World
under target e = record {
  target = target;
  registers = e.registers;
  memory = e.memory;
  cfa = e.cfa;
  frame_base = e.frame_base;
  object = e.object;
}

-- the sum of the number `n` and the offset `by`, modulo 2^w (w is the size of an address in bits)
abbrev pub number_plus : World → ℤ → ℕ → ℕ
number_plus e by n = wrap (width e) (pos n +ℤ by)

-- the sum of the content of a register or of memory and the offset `by`, modulo 2^w; unreadable if
-- there is no content
abbrev pub content_plus : World → ℤ → Option ℕ → Answer
content_plus e by (Some n) = value (number_plus e by n)
content_plus e by None = unreadable

-- the content of the register `r` in the frame whose caller is sought, modulo 2^w; unreadable if
-- the register has no content
abbrev pub content : World → ℕ → Answer
content e r = content_plus e (pos 0) (e.registers r)

-- the address-sized word in memory at the address `a`; unreadable if one of its bytes isn't known
-- or lies past the greatest address, 2^w - 1
abbrev pub word : World → ℕ → Answer
word e a = if nat_le (a + bytes_of_address e.target.address_size) (2 ^ width e)
    then content_plus e (pos 0) (number_at e.memory e.target.order a (bytes_of_address e.target.address_size)) else unreadable

-- applies `f` to the value of an answer; an answer without a value stays unchanged
abbrev pub if_value : Answer → (ℕ → Answer) → Answer
if_value (value n) f = f n
if_value other f = other

-- the answer for the outcome of a run of a CFA's or a register's expression
abbrev pub answer_of : Outcome → Answer
answer_of (results.value n) = value n
answer_of (results.division_by_zero at) = division_by_zero
answer_of _ = unreadable

-- Running the expression `x` as an expression of the kind `kind` gives `answer`. The expression of
-- a CFA rule starts with an empty stack, and the expression of a register's rule starts with the
-- CFA on the stack.
abbrev pub Gives : World → Kind → LocatedExpression → Answer → Type 0
Gives e kind x answer = (outcome : Outcome) × (steps : ℕ)
    × IsRun (under x.target e) kind (operations_in x.target x.bytes) (length x.bytes) outcome steps × (answer ≡ answer_of outcome)

-- ---- the CFA, and each register, by its rule

-- `answer` is what the CFA rule gives. The row of a covered address in an accepted section always
-- has a CFA rule. If the rule is an expression, it starts with an empty stack.
abbrev pub IsCfa : World → Option Cfa → Answer → Type 0
IsCfa e (Some (register_and_offset r n)) answer = answer ≡ content_plus e n (e.registers r)
IsCfa e (Some (cfa_expression x)) answer = Gives e FrameCfa x answer
IsCfa e None answer = answer ≡ unreadable

-- `answer` is the answer of a rule that needs the CFA. If the CFA has a value, `Is` says what the
-- answer is. If it has none, the answer is the CFA's own answer (a choice of docs/PROFILE.md).
abbrev pub NeedsCfa : Answer → (ℕ → Answer → Type 0) → Answer → Type 0
NeedsCfa (value c) Is answer = Is c answer
NeedsCfa other Is answer = answer ≡ other

-- `answer` is what the rule gives for the caller's register `r`, where `cfa` is the answer for the
-- CFA. If the rule is an expression, it starts with the CFA on the stack.
abbrev pub IsRegister : World → Answer → ℕ → Rule → Answer → Type 0
IsRegister e cfa r default answer = answer ≡ undefined
IsRegister e cfa r RuleOver.undefined answer = answer ≡ undefined
IsRegister e cfa r same_value answer = answer ≡ content e r
IsRegister e cfa r (offset n) answer = answer ≡ if_value cfa (λ c. word e (number_plus e n c))
IsRegister e cfa r (val_offset n) answer = answer ≡ if_value cfa (λ c. value (number_plus e n c))
IsRegister e cfa r (register other) answer = answer ≡ content e other
IsRegister e cfa r (expression x) answer =
    NeedsCfa cfa (λ c a. (address : Answer) × Gives (with_cfa e c) FrameRegister x address × (a ≡ if_value address (word e))) answer
IsRegister e cfa r (val_expression x) answer = NeedsCfa cfa (λ c a. Gives (with_cfa e c) FrameRegister x a) answer

-- The second list has, for each register and rule of the first list, the register and its answer,
-- in the same order.
abbrev pub AreRegisters : World → Answer → List (ℕ × Rule) → List (ℕ × Answer) → Type 0
AreRegisters e cfa [] [] = Unit {0}
AreRegisters e cfa (entry ∷ rules) (found ∷ answers) =
    (found.0 ≡ entry.0) × IsRegister e cfa entry.0 entry.1 found.1 × AreRegisters e cfa rules answers
AreRegisters e cfa _ _ = ⊥

-- ---- the caller

-- What unwinding finds for a caller: its CFA; each register that has a rule, from the row or from
-- the ABI, in ascending order of register numbers; and its return address.
pub record Caller : Type 0 where
  pub cfa : Answer
  pub registers : List (ℕ × Answer)
  pub return_address : Answer

-- `caller` is what the rules of `row` give for the registers and memory of `e`. A register to which
-- the row gives no rule has the ABI's rule. The return address is the answer for the register
-- `column`, which is the CIE's return_address_register.
pub record IsCaller (e : World) (abi : Abi) (column : ℕ) (row : Row) (caller : Caller) : Type 0 where
  pub cfa : IsCfa e row.cfa caller.cfa
  pub registers : AreRegisters e caller.cfa (rules_under abi row.rules) caller.registers
  pub return_address : IsRegister e caller.cfa column (rule_under abi row.rules column) caller.return_address

-- `caller` is the caller of a frame at `address`. It is computed by the row of that address, with
-- the return address register of the CIE whose FDE covers the address.
pub record IsCallerAt (e : World) (abi : Abi) (frame : FrameSection) (address : ℕ) (caller : Caller) : Type 0 where
  pub fde : Fde
  pub covers : IsCoverOf frame.fdes address (Some fde)
  pub cie : Cie
  pub cie_is : cie_in frame fde ≡ Some cie
  pub row : Row
  pub row_is : row_of frame address ≡ Some row
  pub is : IsCaller e abi cie.return_address_register row caller

-- Unwinding at an address gives the caller, or none if no FDE covers the address.
abbrev pub Unwinds : World → Abi → FrameSection → ℕ → Option Caller → Type 0
Unwinds e abi frame address (Some caller) = IsCallerAt e abi frame address caller
Unwinds e abi frame address None = (f : Fde) → Contains frame.fdes f → ¬ Covers f address

-- ---- unwinding by the result of a row look-up

-- Unwinding by the result of a row look-up. A row that was found, with its return address register,
-- gives a caller. If no row was found, there is no caller.
abbrev pub UnwindsBy : World → Abi → Option (Row × ℕ) → Option Caller → Type 0
UnwindsBy e abi (Some found) (Some caller) = IsCaller e abi found.1 found.0 caller
UnwindsBy e abi None None = Unit {0}
UnwindsBy e abi (Some found) None = ⊥
UnwindsBy e abi None (Some caller) = ⊥
