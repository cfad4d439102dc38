-- The list of a caller's registers in which each register takes 16 bytes.
use Rattle.std.specs.Prelude.{◌≡◌, ℕ, ◌≤◌, List, length}
use Rattle.dw_unwind.specs.Caller.{Answer, value, undefined, unreadable, division_by_zero}
use Rattle.dw_unwind.specs.declared.packed_registers.AnswerKind.{AnswerKind}
use Rattle.dw_unwind.specs.declared.packed_registers.AnswerKind.TheVariants as kinds
use Rattle.dw_unwind.specs.declared.packed_registers.PackedRegister.{PackedRegister}

-- the answer of this kind; n is the value, if the answer is a value
abbrev pub answer_by : AnswerKind → ℕ → Answer
answer_by kinds.Value n = value n
answer_by kinds.Undefined n = undefined
answer_by kinds.Unreadable n = unreadable
answer_by kinds.DivisionByZero n = division_by_zero

-- a register number with its answer
abbrev pub packed_in : PackedRegister → ℕ × Answer
packed_in r = (r.number, answer_by r.kind r.value)

-- The list `slots` has `most` slots for registers, and the first `count` slots are in use.
pub record IsPacked (most : ℕ) (slots : List PackedRegister) (count : ℕ) : Type 0 where
  pub few : count ≤ most
  pub room : length slots ≡ most
