-- What checking one operation in one state gives (src/operation_check.rt): whether the operation is
-- allowed there, and what comes after it.
use Rattle.std.specs.Prelude.{◌≡◌, ◌≢◌, ℕ, ℤ, ◌+◌, ◌<◌, ◌≤◌, true, List, length, Option, Some, None, slice_get}
use Rattle.dw_bytes.specs.declared.fault.FaultKind.{FaultKind}
use Rattle.dw_bytes.specs.declared.fault.FaultKind.TheVariants as fault
use Rattle.dw_stack.specs.declared.effect.StackEffect.{StackEffect}
use Rattle.dw_stack.specs.declared.operation_check.OutState.{OutState}
use Rattle.dw_stack.specs.declared.operation_check.TheConstants.{MAX_HEIGHT, MAX_PIECES}
use Rattle.dw_stack.specs.declared.state.StackState.{StackState}
use Rattle.dw_stack.specs.declared.state.Kind.{Kind}
use Rattle.dw_stack.specs.Effects.{effect_of}
use Rattle.dw_stack.specs.States.{StandsAlone, height_after, state_after}
use Rattle.dw_stack.specs.Paths.{Placed, place, branch_target, IsAllowed, is_piece}
use Rattle.dw_stack.specs.Faults.{passes, first_failed}

-- e is the effect of the operation numbered k
pub record IsEffectAt (ops : List Placed) (k : ℕ) (e : StackEffect) : Type 0 where
  pub placed : Placed
  pub stands : slice_get ops k ≡ Some placed
  pub is : e ≡ effect_of placed.1

-- an operation with effect e is allowed in state s if `pieces` piece operations come before it, and
-- `height` is the stack height after the operation, before a piece clears the stack
pub record Suits (kind : Kind) (e : StackEffect) (pieces : ℕ) (s : StackState) (height : ℕ) : Type 0 where
  pub allowed : IsAllowed kind e
  pub alone : StandsAlone e.role s.mode s.height
  pub needs : e.needs ≤ s.height
  pub limit : height ≤ MAX_HEIGHT
  pub few : is_piece e.role ≡ true → pieces < MAX_PIECES
  pub height_is : height ≡ height_after e s

-- the operation numbered k branches by z bytes to the operation numbered j, or to the end if j is
-- the number of all operations
pub record TargetPlace (ops : List Placed) (len k : ℕ) (z : ℤ) (j : ℕ) : Type 0 where
  pub later : k < j
  pub within : j ≤ length ops
  pub there : branch_target (place ops len (k + 1)) z ≡ Some (place ops len j)

abbrev pub TargetObjects : List Placed → ℕ → ℕ → ℤ → FaultKind → Type 0
TargetObjects ops len k z fault.Backward = branch_target (place ops len (k + 1)) z ≡ None
TargetObjects ops len k z fault.TargetNotStart =
    (t : ℕ) × (branch_target (place ops len (k + 1)) z ≡ Some t) × ((j : ℕ) → j ≤ length ops → place ops len j ≢ t)
TargetObjects ops len k z _ = ⊥

abbrev pub TargetIs : List Placed → ℕ → ℕ → Option ℤ → Option ℕ → Type 0
TargetIs ops len k None None = Unit {0}
TargetIs ops len k (Some z) (Some j) = TargetPlace ops len k z j
TargetIs ops len k None (Some j) = ⊥
TargetIs ops len k (Some z) None = ⊥

-- the operation numbered k passes all checks in state s, and `out` has the state after it and says
-- which operations may run next
pub record Checked (kind : Kind) (ops : List Placed) (len k pieces : ℕ) (s : StackState) (out : OutState) : Type 0 where
  pub placed : Placed
  pub stands : slice_get ops k ≡ Some placed
  pub allowed : IsAllowed kind (effect_of placed.1)
  pub alone : StandsAlone (effect_of placed.1).role s.mode s.height
  pub needs : (effect_of placed.1).needs ≤ s.height
  pub limit : out.height ≤ MAX_HEIGHT
  pub few : is_piece (effect_of placed.1).role ≡ true → pieces < MAX_PIECES
  pub height : out.height ≡ height_after (effect_of placed.1) s
  pub state : out.state ≡ state_after (effect_of placed.1) s
  pub piece : out.piece ≡ is_piece (effect_of placed.1).role
  pub falls_through : out.falls_through ≡ (effect_of placed.1).falls_through
  pub target : TargetIs ops len k (effect_of placed.1).jump out.target

-- the operation numbered k fails a check in state s, and the first check that it fails is f
pub record Objects (kind : Kind) (ops : List Placed) (len k pieces : ℕ) (s : StackState) (f : FaultKind) : Type 0 where
  pub placed : Placed
  pub stands : slice_get ops k ≡ Some placed
  pub first : first_failed (passes kind ops len k pieces (effect_of placed.1) s) ≡ Some f
