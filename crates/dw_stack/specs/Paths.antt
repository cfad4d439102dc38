-- The paths through an expression, the states on them, and when an expression is good: nothing goes
-- wrong on any path. Two rules are this checker's own: a path only goes forward, and both ways of a
-- conditional branch count as paths, whatever value is on the stack.
use Rattle.std.specs.Prelude.{◌≡◌, ℕ, ℤ, pos, negsuc, zero, suc, ◌+◌, ◌==◌, ◌<◌, ◌≤◌, ◌⊎◌, Bool, true, false, List, [], ◌∷◌, length, take}
use Rattle.std.specs.Prelude.{count_by, IsTrue, Option, Some, None, slice_get}
use Rattle.dw_ops.specs.Operations.{Operation}
use Rattle.dw_stack.specs.declared.effect.Role.{Role}
use Rattle.dw_stack.specs.declared.effect.Role.TheVariants as role
use Rattle.dw_stack.specs.declared.effect.StackEffect.{StackEffect}
use Rattle.dw_stack.specs.declared.operation_check.TheConstants.{MAX_HEIGHT, MAX_PIECES}
use Rattle.dw_stack.specs.declared.state.State.{State}
use Rattle.dw_stack.specs.declared.state.StackState.{StackState}
use Rattle.dw_stack.specs.declared.state.Kind.{Kind}
use Rattle.dw_stack.specs.declared.state.Kind.TheVariants.{Location}
use Rattle.dw_stack.specs.Effects.{effect_of}
use Rattle.dw_stack.specs.States.{start_of, StandsAlone, height_after, state_after, HasResult, at_offset}

-- an operation with its offset; operations are numbered from 0
abbrev pub Placed : Type 0
Placed = ℕ × Operation

-- the offset of the operation numbered j, or the expression's length if there is no such operation
abbrev pub place : List Placed → ℕ → ℕ → ℕ
place [] len j = len
place (x ∷ xs) len zero = x.0
place (x ∷ xs) len (suc j) = place xs len j

-- the offset is the start of an operation, or the end of the expression
abbrev pub IsStart : List Placed → ℕ → ℕ → Type 0
IsStart ops len at = (at ≡ len) ⊎ ((k : ℕ) × (x : Placed) × (slice_get ops k ≡ Some x) × (x.0 ≡ at))

-- the operations are laid out in order from offset 0 up to the length
pub record IsLaidOut (ops : List Placed) (len : ℕ) : Type 0 where
  pub first : place ops len 0 ≡ 0
  pub each : (j : ℕ) → j < length ops → place ops len j < place ops len (j + 1)

-- the offset that a branch leads to on a path: its operand counts from the next operation, at
-- `next`; None if the branch is backward
abbrev pub branch_target : ℕ → ℤ → Option ℕ
branch_target next (pos n) = Some (next + n)
branch_target next (negsuc n) = None

-- jump_target gives the branch target of an operation if the next operation is at offset `next`.
-- branch_target_of gives the branch target of the operation numbered k. Both give None if the
-- operation isn't a branch, or if it branches backward.
abbrev pub jump_target : ℕ → Option ℤ → Option ℕ
jump_target next None = None
jump_target next (Some z) = branch_target next z

abbrev pub branch_target_of : List Placed → ℕ → ℕ → StackEffect → Option ℕ
branch_target_of ops len k e = jump_target (place ops len (k + 1)) e.jump

-- t is the offset of an operation with a number above k, or the end of the expression
pub record IsTarget (ops : List Placed) (len k t : ℕ) : Type 0 where
  pub number : ℕ
  pub later : k < number
  pub within : number ≤ length ops
  pub there : place ops len number ≡ t

-- a path may go from the operation numbered k, whose effect is e, to offset b
abbrev pub Leads : List Placed → ℕ → ℕ → StackEffect → ℕ → Type 0
Leads ops len k e b = (IsTrue e.falls_through × (b ≡ place ops len (k + 1)))
    ⊎ ((branch_target_of ops len k e ≡ Some b) × IsTarget ops len k b)

-- an edge: a path may go from the operation at offset a to offset b, and the operation changes
-- state s to state t
pub record Edge (ops : List Placed) (len a : ℕ) (s : StackState) (b : ℕ) (t : StackState) : Type 0 where
  pub number : ℕ
  pub placed : Placed
  pub stands : slice_get ops number ≡ Some placed
  pub from : placed.0 ≡ a
  pub leads : Leads ops len number (effect_of placed.1) b
  pub state : t ≡ state_after (effect_of placed.1) s

-- a path from offset a and state s to offset b and state t, edge by edge over the listed offsets
abbrev pub Follows : List Placed → ℕ → ℕ → StackState → List ℕ → ℕ → StackState → Type 0
Follows ops len a s [] b t = (a ≡ b) × (s ≡ t)
Follows ops len a s (c ∷ path) b t = (r : StackState) × Edge ops len a s c r × Follows ops len c r path b t

-- some path from the start of the expression reaches offset b with state s
pub record Reaches (kind : Kind) (ops : List Placed) (len b : ℕ) (s : StackState) : Type 0 where
  pub path : List ℕ
  pub follows : Follows ops len 0 (start_of kind) path b s

-- whether an expression of this kind may have an operation with effect e
abbrev pub has_operation : Kind → StackEffect → Bool
has_operation Location e = true
has_operation _ e = e.allowed_in_cfi

abbrev pub IsAllowed : Kind → StackEffect → Type 0
IsAllowed kind e = IsTrue (has_operation kind e)

abbrev pub is_piece : Role → Bool
is_piece role.Piece = true
is_piece _ = false

-- how many of the first k operations are pieces
abbrev pub pieces_before : List Placed → ℕ → ℕ
pieces_before ops k = count_by (λ x. is_piece (effect_of x.1).role) (take k ops)

-- good operations: nothing goes wrong on any path, and each operation is on a path
pub record IsGood (kind : Kind) (ops : List Placed) (len : ℕ) : Type 0 where
  pub allowed : (k : ℕ) (x : Placed) → slice_get ops k ≡ Some x → IsAllowed kind (effect_of x.1)
  -- each operation's needs are met on every path that reaches it
  pub alone : (k : ℕ) (x : Placed) (s : StackState) → slice_get ops k ≡ Some x → Reaches kind ops len x.0 s
      → StandsAlone (effect_of x.1).role s.mode s.height
  pub needs : (k : ℕ) (x : Placed) (s : StackState) → slice_get ops k ≡ Some x → Reaches kind ops len x.0 s
      → (effect_of x.1).needs ≤ s.height
  -- no stack height on a path is above the limit
  pub limit : (k : ℕ) (x : Placed) (s : StackState) → slice_get ops k ≡ Some x → Reaches kind ops len x.0 s
      → height_after (effect_of x.1) s ≤ MAX_HEIGHT
  -- any two paths to the same offset, or to the end, have the same state there
  pub one : (b : ℕ) (s t : StackState) → Reaches kind ops len b s → Reaches kind ops len b t → s ≡ t
  -- every operation is on a path
  pub each : (k : ℕ) (x : Placed) → slice_get ops k ≡ Some x → ∥ ((s : StackState) × Reaches kind ops len x.0 s) ∥₁
  -- no branch is backward, and each branch target is the start of a later operation, or the end
  pub ahead : (k : ℕ) (z : ℤ) (x : Placed) → slice_get ops k ≡ Some x → (effect_of x.1).jump ≡ Some z
      → ¬ (branch_target (place ops len (k + 1)) z ≡ None)
  pub targets : (k t : ℕ) (x : Placed) → slice_get ops k ≡ Some x → branch_target_of ops len k (effect_of x.1) ≡ Some t
      → IsTarget ops len k t
  pub pieces : pieces_before ops (length ops) ≤ MAX_PIECES
  -- an expression has a result at the end of every path
  pub ends : (s : StackState) → Reaches kind ops len len s → HasResult kind (length ops == 0) s

-- the states that paths have before the operations, one for each operation
pub record AreStates (kind : Kind) (ops : List Placed) (len : ℕ) (states : List State) : Type 0 where
  pub long : length states ≡ length ops
  pub each : (k : ℕ) (x : Placed) (s : StackState) → slice_get ops k ≡ Some x → Reaches kind ops len x.0 s
      → slice_get states k ≡ Some (at_offset x.0 s)

-- h is the stack height before or after an operation on a path, or at the start of the expression
abbrev pub Touches : Kind → List Placed → ℕ → ℕ → Type 0
Touches kind ops len h =
    (h ≡ (start_of kind).height) ⊎ ((k : ℕ) × (x : Placed) × (s : StackState) × (slice_get ops k ≡ Some x) × Reaches kind ops len x.0 s
    × ((h ≡ s.height) ⊎ (h ≡ height_after (effect_of x.1) s)))

-- d is the greatest stack height on any path
pub record IsDepth (kind : Kind) (ops : List Placed) (len d : ℕ) : Type 0 where
  pub touched : ∥ Touches kind ops len d ∥₁
  pub greatest : (h : ℕ) → Touches kind ops len h → h ≤ d
