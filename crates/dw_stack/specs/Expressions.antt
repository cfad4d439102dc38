-- When an expression is good, and what its states, its depth and its first fault are, all defined
-- from its bytes.
use Rattle.std.specs.Prelude.{◌≡◌, ℕ, ◌⊎◌, List, length, Option, Some, None}
use Rattle.dw_bytes.specs.declared.target.Target.{Target}
use Rattle.dw_bytes.specs.declared.fault.Fault.{Fault}
use Rattle.dw_bytes.specs.declared.fault.FaultKind.TheVariants.{CertLength}
use Rattle.dw_bytes.specs.Reading.{ReadPosition, section_from}
use Rattle.dw_bytes.specs.Answers.{values_in, fault_in}
use Rattle.dw_ops.specs.Opcodes.{AreOperations, operations_of}
use Rattle.dw_stack.specs.declared.state.State.{State}
use Rattle.dw_stack.specs.declared.state.Kind.{Kind}
use Rattle.dw_stack.specs.Paths.{Placed, IsGood, AreStates, IsDepth}
use Rattle.dw_stack.specs.Faults.{IsFirstFault}
use Rattle.dw_stack.specs.Machine.{RunsWell}

-- the position at offset `at` of the bytes, to read from there to their end
abbrev pub reading_at : Target → List ℕ → ℕ → ReadPosition
reading_at target bytes at = section_from target bytes at

-- operations_in gives the operations that the bytes encode, up to the first operation that can't be
-- read. reading_fault gives the fault of reading that operation, or None if all can be read.
abbrev pub operations_in : Target → List ℕ → List Placed
operations_in target bytes = values_in (operations_of (record { target = target; position = 0; rest = bytes }))

abbrev pub reading_fault : Target → List ℕ → Option Fault
reading_fault target bytes = fault_in (operations_of (record { target = target; position = 0; rest = bytes }))

-- a good expression: its bytes are the encodings of its operations, and the operations are good on
-- all paths
pub record IsGoodExpression (kind : Kind) (target : Target) (bytes : List ℕ) : Type 0 where
  pub encoded : AreOperations target 0 bytes (operations_in target bytes)
  pub good : IsGood kind (operations_in target bytes) (length bytes)

-- `states` has the state that paths have before each operation, in order of the operations
abbrev pub AreStatesOf : Kind → Target → List ℕ → List State → Type 0
AreStatesOf kind target bytes states = AreStates kind (operations_in target bytes) (length bytes) states

-- `depth` is the greatest stack height on any path of the expression
abbrev pub IsDepthOf : Kind → Target → List ℕ → ℕ → Type 0
IsDepthOf kind target bytes depth = IsDepth kind (operations_in target bytes) (length bytes) depth

-- every run of the expression follows a path, agrees with the states on that path, stays within
-- `depth`, and never gets stuck
abbrev pub RunsWellWithin : Kind → Target → List ℕ → ℕ → Type 0
RunsWellWithin kind target bytes depth = RunsWell kind (operations_in target bytes) (length bytes) depth

-- states are passed to be checked (see `recheck`), and their number isn't the number of operations
abbrev pub IsOtherCount : Target → List ℕ → Option (List State) → Type 0
IsOtherCount target bytes None = ⊥
IsOtherCount target bytes (Some given) = ¬ (length given ≡ length (operations_in target bytes))

-- f is the first fault of an expression. Faults of reading come first, then a wrong number of
-- states in `given`, then the faults of each operation and of the end.
abbrev pub IsFaultOf : Kind → Target → List ℕ → Option (List State) → Fault → Type 0
IsFaultOf kind target bytes given f =
    (reading_fault target bytes ≡ Some f)
    ⊎ ((reading_fault target bytes ≡ None) × IsOtherCount target bytes given × (f ≡ record { kind = CertLength; at = 0 }))
    ⊎ ((reading_fault target bytes ≡ None) × ¬ IsOtherCount target bytes given × IsFirstFault kind (operations_in target bytes)
    (length bytes) given f.kind f.at)

-- a checked expression: its kind, target and bytes, its depth, and the number of its operations
pub record Checked : Type 0 where
  pub kind : Kind
  pub target : Target
  pub bytes : List ℕ
  pub depth : ℕ
  pub count : ℕ

-- the expression is good, and its depth and its number of operations are right
pub record IsChecked (c : Checked) : Type 0 where
  pub good : IsGoodExpression c.kind c.target c.bytes
  pub depth : IsDepthOf c.kind c.target c.bytes c.depth
  pub count : c.count ≡ length (operations_in c.target c.bytes)

-- the checked expression has this kind, this target and these bytes
pub record IsOf (kind : Kind) (target : Target) (bytes : List ℕ) (c : Checked) : Type 0 where
  pub kind_is : c.kind ≡ kind
  pub target_is : c.target ≡ target
  pub bytes_are : c.bytes ≡ bytes

-- the states in `given`, if any are passed, are the states of the expression
abbrev pub Knows : Kind → Target → List ℕ → Option (List State) → Type 0
Knows kind target bytes None = Unit {0}
Knows kind target bytes (Some given) = AreStatesOf kind target bytes given
