-- The checks of an expression's operations: what each check refuses, and in which order the checks
-- are made. A check is named by the kind of fault that it reports.
use Rattle.std.specs.Prelude.{◌≡◌, ◌≢◌, ℕ, ℤ, ◌+◌, ◌==◌, nat_lt, nat_le, ◌||◌, ◌<◌, ◌⊎◌, Bool, true, false, not, is_some, List, [], ◌∷◌}
use Rattle.std.specs.Prelude.{length, find, Option, Some, None, slice_get}
use Rattle.std.specs.List.{list_any}
use Rattle.dw_bytes.specs.declared.fault.FaultKind.{FaultKind}
use Rattle.dw_bytes.specs.declared.fault.FaultKind.TheVariants as fault
use Rattle.dw_stack.specs.declared.operation_check.TheConstants.{MAX_HEIGHT, MAX_PIECES}
use Rattle.dw_stack.specs.declared.effect.StackEffect.{StackEffect}
use Rattle.dw_stack.specs.declared.state.State.{State}
use Rattle.dw_stack.specs.declared.state.StackState.{StackState}
use Rattle.dw_stack.specs.declared.state.Kind.{Kind}
use Rattle.dw_stack.specs.Effects.{effect_of}
use Rattle.dw_stack.specs.States.{stands_alone, height_after, HasResult, at_offset}
use Rattle.dw_stack.specs.Paths.{Placed, place, branch_target, branch_target_of, Reaches, has_operation, is_piece, pieces_before}

-- no states are passed to be checked (see `recheck`), or the passed state at index k is t
abbrev pub Keeps : Option (List State) → ℕ → State → Type 0
Keeps None k t = Unit {0}
Keeps (Some given) k t = slice_get given k ≡ Some t

-- no states are passed to be checked, or the passed state for the operation numbered k is s with
-- the operation's offset
abbrev pub FitsCertificate : List Placed → ℕ → Option (List State) → ℕ → StackState → Type 0
FitsCertificate ops len given k s = Keeps given k (at_offset (place ops len k) s)

-- ---- the checks of one operation

-- the checks that are made of an operation, in this order, once all paths to it have the same state
abbrev pub verdicts : List FaultKind
verdicts = fault.NotInFrame ∷ fault.NotAlone ∷ fault.Underflow ∷ fault.TooDeep ∷ fault.TooManyPieces ∷ fault.Backward
    ∷ fault.TargetNotStart ∷ []

-- the operation isn't a backward branch
abbrev pub is_ahead : ℕ → Option ℤ → Bool
is_ahead next None = true
is_ahead next (Some z) = is_some (branch_target next z)

-- the branch target, if there is one, is the start of an operation, or the end
abbrev pub is_start : List Placed → ℕ → Option ℕ → Bool
is_start ops len None = true
is_start ops len (Some t) = (len == t) || list_any (λ (x : Placed). x.0 == t) ops

-- whether an operation with effect e passes the check named by the fault, in state s, if `pieces`
-- piece operations come before it; true for the checks of branch targets, which `passes` adds
abbrev pub suits : Kind → ℕ → StackEffect → StackState → FaultKind → Bool
suits kind pieces e s fault.NotInFrame = has_operation kind e
suits kind pieces e s fault.NotAlone = stands_alone e.role s.mode s.height
suits kind pieces e s fault.Underflow = nat_le e.needs s.height
suits kind pieces e s fault.TooDeep = nat_le (height_after e s) MAX_HEIGHT
suits kind pieces e s fault.TooManyPieces = not (is_piece e.role) || nat_lt pieces MAX_PIECES
suits kind pieces e s _ = true

-- whether the operation numbered k, with effect e, passes the check named by the fault, which may
-- be a check of its branch target
abbrev pub passes : Kind → List Placed → ℕ → ℕ → ℕ → StackEffect → StackState → FaultKind → Bool
passes kind ops len k pieces e s fault.Backward = is_ahead (place ops len (k + 1)) e.jump
passes kind ops len k pieces e s fault.TargetNotStart = is_start ops len (branch_target_of ops len k e)
passes kind ops len k pieces e s f = suits kind pieces e s f

-- the first check that fails, or None if none fails
abbrev pub first_failed : (FaultKind → Bool) → Option FaultKind
first_failed passed = find (λ f. not (passed f)) verdicts

-- ---- the checks of all operations and of the end

-- the operation x, numbered k, fails the check f in state s
abbrev pub Objection : Kind → List Placed → ℕ → ℕ → ℕ → Placed → StackState → FaultKind → Type 0
Objection kind ops len k pieces x s f = passes kind ops len k pieces (effect_of x.1) s f ≡ false

-- the check named by the fault f refuses at offset `at`
abbrev pub Refuses : Kind → List Placed → ℕ → Option (List State) → FaultKind → ℕ → Type 0
Refuses kind ops len given fault.Unreachable at =
    (k : ℕ) × (x : Placed) × (slice_get ops k ≡ Some x) × (x.0 ≡ at) × ((s : StackState) → ¬ Reaches kind ops len at s)
Refuses kind ops len given fault.Mismatch at =
    (s : StackState) × (t : StackState) × Reaches kind ops len at s × Reaches kind ops len at t × (s ≢ t)
Refuses kind ops len given fault.CertState at =
    (k : ℕ) × (x : Placed) × (s : StackState) × (slice_get ops k ≡ Some x) × (x.0 ≡ at) × Reaches kind ops len at s
    × ¬ FitsCertificate ops len given k s
Refuses kind ops len given fault.EndsEmpty at =
    (at ≡ len) × ((s : StackState) × Reaches kind ops len len s × ¬ HasResult kind (length ops == 0) s)
Refuses kind ops len given f at =
    (k : ℕ) × (x : Placed) × (s : StackState) × (slice_get ops k ≡ Some x) × (x.0 ≡ at) × Reaches kind ops len at s
    × Objection kind ops len k (pieces_before ops k) x s f

-- the place of each check in the order of the checks at one offset
abbrev pub rank : FaultKind → ℕ
rank fault.Unreachable = 0
rank fault.Mismatch = 1
rank fault.CertState = 2
rank fault.NotInFrame = 3
rank fault.NotAlone = 4
rank fault.Underflow = 5
rank fault.TooDeep = 6
rank fault.TooManyPieces = 7
rank fault.Backward = 8
rank fault.TargetNotStart = 9
rank fault.EndsEmpty = 10
rank _ = 11

abbrev pub FaultPrecedes : ℕ → FaultKind → ℕ → FaultKind → Type 0
FaultPrecedes a f b g = (a < b) ⊎ ((a ≡ b) × (rank f < rank g))

-- The check f refuses at offset `at`, and no check refuses at a lower offset or comes before f at
-- the same offset.
pub record IsFirstFault (kind : Kind) (ops : List Placed) (len : ℕ) (given : Option (List State)) (f : FaultKind) (at : ℕ) : Type 0 where
  pub refuses : Refuses kind ops len given f at
  pub first : (g : FaultKind) (a : ℕ) → FaultPrecedes a g at f → ¬ Refuses kind ops len given g a

-- the states in `given`, if any are passed, are those that the paths have
pub record KnowsOnly (kind : Kind) (ops : List Placed) (len : ℕ) (given : Option (List State)) : Type 0 where
  pub each : (k : ℕ) (x : Placed) (s : StackState) → slice_get ops k ≡ Some x → Reaches kind ops len x.0 s → FitsCertificate ops len given k s
