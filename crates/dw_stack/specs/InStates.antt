-- The table of `InState`, which holds what is known so far of the state before each operation, and
-- how one step of the pass (src/step.rt) changes it.
use Rattle.std.specs.Prelude.{◌≡◌, ◌≢◌, ℕ, ◌+◌, ◌⊎◌, Bool, true, false, List, Option, Some, None, Result, Ok, Err, slice_set}
use Rattle.std.specs.Prelude.{slice_index_or}
use Rattle.std.specs.Borrow.{Bor}
use Rattle.dw_bytes.specs.declared.fault.FaultKind.{FaultKind}
use Rattle.dw_bytes.specs.declared.fault.FaultKind.TheVariants as fault
use Rattle.dw_stack.specs.declared.operation_check.OutState.{OutState}
use Rattle.dw_stack.specs.declared.in_state.InState.{InState}
use Rattle.dw_stack.specs.declared.in_state.InState.TheVariants.{Unreached, Known, Conflict}
use Rattle.dw_stack.specs.declared.step.Done.{Done}
use Rattle.dw_stack.specs.declared.state.State.{State}
use Rattle.dw_stack.specs.declared.state.StackState.{StackState}
use Rattle.dw_stack.specs.declared.state.Kind.{Kind}
use Rattle.dw_stack.specs.Paths.{Placed}
use Rattle.dw_stack.specs.Faults.{FitsCertificate}
use Rattle.dw_stack.specs.OperationCheck.{Checked, Objects}

-- the states that the caller passes to be checked, as a list; None if no states are passed
abbrev pub given_of : Option (Bor (List State)) → Option (List State)
given_of None = None
given_of (Some states) = Some states.now

abbrev pub Merges : InState → StackState → InState → Type 0
Merges Unreached s new = new ≡ Known s
Merges (Known t) s new = ((t ≡ s) × (new ≡ Known t)) ⊎ ((t ≢ s) × (new ≡ Conflict))
Merges Conflict s new = new ≡ Conflict

pub record Receives (old : List InState) (j : ℕ) (s : StackState) (new : List InState) : Type 0 where
  pub in_state : InState
  pub merges : Merges (slice_index_or old j Unreached) s in_state
  pub set : new ≡ slice_set old j in_state

abbrev pub ReceivesIf : Bool → List InState → ℕ → StackState → List InState → Type 0
ReceivesIf true old j s new = Receives old j s new
ReceivesIf false old j s new = new ≡ old

abbrev pub ReceivesAt : Option ℕ → List InState → StackState → List InState → Type 0
ReceivesAt None old s new = new ≡ old
ReceivesAt (Some j) old s new = Receives old j s new

-- passing `out.state`, the state after the operation numbered i, on to the operations that may run
-- next turns the table `old` into the table `new`
pub record PassesOn (old : List InState) (i : ℕ) (out : OutState) (new : List InState) : Type 0 where
  pub mid : List InState
  pub next : ReceivesIf out.falls_through old (i + 1) out.state mid
  pub target : ReceivesAt out.target mid out.state new

abbrev pub known_state : InState → Result StackState FaultKind
known_state Unreached = Err fault.Unreachable
known_state (Known s) = Ok s
known_state Conflict = Err fault.Mismatch

pub record Stepped (kind : Kind) (ops : List Placed) (len : ℕ) (given : Option (List State)) (i pieces : ℕ) (old : List InState)
    (done : Done) (new : List InState) : Type 0 where
  pub out : OutState
  pub one : slice_index_or old i Unreached ≡ Known done.state
  pub given_is : FitsCertificate ops len given i done.state
  pub checked : Checked kind ops len i pieces done.state out
  pub height : done.height ≡ out.height
  pub piece : done.piece ≡ out.piece
  pub passes : PassesOn old i out new

abbrev pub StepObjects : Kind → List Placed → ℕ → Option (List State) → ℕ → ℕ → List InState → FaultKind → Type 0
StepObjects kind ops len given i pieces old fault.Unreachable = slice_index_or old i Unreached ≡ Unreached
StepObjects kind ops len given i pieces old fault.Mismatch = slice_index_or old i Unreached ≡ Conflict
StepObjects kind ops len given i pieces old fault.CertState = (s : StackState) × (slice_index_or old i Unreached ≡ Known s)
    × ¬ FitsCertificate ops len given i s
StepObjects kind ops len given i pieces old f = (s : StackState) × (slice_index_or old i Unreached ≡ Known s) × FitsCertificate ops len given i s
    × Objects kind ops len i pieces s f
