-- The state of the stack: its height, what has been named (the mode), and whether there was a
-- piece. Which operations a state allows, and the state after an operation (DWARF 5, section 2.6).
-- One rule is this checker's own: all paths to an operation must have the same state.
use Rattle.std.specs.Prelude.{ℕ, ◌+◌, ◌-◌, ◌==◌, nat_le, ◌&&◌, ◌||◌, Bool, true, false, not, IsTrue}
use Rattle.dw_stack.specs.declared.effect.Role.{Role}
use Rattle.dw_stack.specs.declared.effect.Role.TheVariants as role
use Rattle.dw_stack.specs.declared.effect.StackEffect.{StackEffect}
use Rattle.dw_stack.specs.declared.state.Mode.{Mode}
use Rattle.dw_stack.specs.declared.state.Mode.TheVariants as mode
use Rattle.dw_stack.specs.declared.state.Kind.{Kind}
use Rattle.dw_stack.specs.declared.state.Kind.TheVariants.{FrameCfa, FrameRegister, Location}
use Rattle.dw_stack.specs.declared.state.State.{State}
use Rattle.dw_stack.specs.declared.state.StackState.{StackState}

-- A register rule starts with the CFA on the stack, the other kinds with an empty stack.
abbrev pub start_of : Kind → StackState
start_of FrameCfa = record { height = 0; mode = mode.Stack; pieced = false }
start_of FrameRegister = record { height = 1; mode = mode.Stack; pieced = false }
start_of Location = record { height = 0; mode = mode.Stack; pieced = false }

-- After an operation that names a register or a value, only a piece may follow. An operation that
-- names a register or bytes needs an empty stack; stack_value takes the top, whatever is below.
-- Before a piece there may be only the location or value of that piece: a register or value that
-- was named, one address on the stack, or nothing.
abbrev pub stands_alone : Role → Mode → ℕ → Bool
stands_alone role.Piece mode.AfterPiece h = true
stands_alone role.Piece mode.Stack h = nat_le h 1
stands_alone role.Piece _ h = h == 0
stands_alone _ mode.Register h = false
stands_alone _ mode.Value h = false
stands_alone role.Plain _ h = true
stands_alone role.Top _ h = true
stands_alone _ _ h = h == 0

abbrev pub StandsAlone : Role → Mode → ℕ → Type 0
StandsAlone role mode h = IsTrue (stands_alone role mode h)

abbrev pub next_mode : Role → ℕ → Bool → StackState
next_mode role.Plain h p = record { height = h; mode = mode.Stack; pieced = p }
next_mode role.Register h p = record { height = h; mode = mode.Register; pieced = p }
next_mode role.Bytes h p = record { height = h; mode = mode.Value; pieced = p }
next_mode role.Top h p = record { height = h; mode = mode.Value; pieced = p }
next_mode role.Piece h p = record { height = 0; mode = mode.AfterPiece; pieced = true }

-- the height after an operation, before a piece clears the stack
abbrev pub height_after : StackEffect → StackState → ℕ
height_after e s = s.height - e.takes + e.adds

-- the state after an operation
abbrev pub state_after : StackEffect → StackState → StackState
state_after e s = next_mode e.role (height_after e s) s.pieced

-- An expression that ends in this mode and at this height has a result. The first flag tells
-- whether the expression has no operations, and the second whether it has pieces.
abbrev pub has_result : Kind → Mode → Bool → Bool → ℕ → Bool
has_result Location mode.AfterPiece empty pieced h = true
has_result Location mode.Stack empty pieced h = empty || (not pieced && nat_le 1 h)
has_result Location _ empty pieced h = not pieced
has_result _ mode.Stack empty pieced h = nat_le 1 h
has_result _ _ empty pieced h = false

abbrev pub HasResult : Kind → Bool → StackState → Type 0
HasResult kind empty s = IsTrue (has_result kind s.mode empty s.pieced s.height)

-- a state with the offset of its operation
abbrev pub at_offset : ℕ → StackState → State
at_offset at s = record { offset = at; height = s.height; mode = s.mode; pieced = s.pieced }
