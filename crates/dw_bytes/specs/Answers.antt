-- How the result of a check must relate to the fault that a definition computes. The fault is None
-- if nothing is wrong.
use Rattle.std.specs.Prelude.{◌≡◌, ◌⊎◌, List, [], ◌∷◌, Option, Some, None, Result, Ok, Err}
use Rattle.dw_bytes.specs.declared.fault.Fault.{Fault}
use Rattle.dw_bytes.specs.declared.fault.FaultKind.TheVariants.{Memory}

-- The check passes only if there is no fault; otherwise it returns that fault.
abbrev pub Checks : {X : Type 0} → Option Fault → Result X Fault → Type 0
Checks fault (Ok _) = fault ≡ None
Checks fault (Err f) = fault ≡ Some f

-- the fault of a failed allocation
abbrev pub memory : Fault
memory = record { kind = Memory; at = 0 }

-- The result of a check that allocates memory. The check passes only if there is no fault. If it
-- fails, it returns that fault or `memory`. It may return `memory` even if there is no fault.
abbrev pub Answers : {X : Type 0} → Option Fault → Result X Fault → Type 0
Answers fault (Ok _) = fault ≡ None
Answers fault (Err f) = (f ≡ memory) ⊎ (fault ≡ Some f)

-- For a list of results: values_in gives the values before the first fault, and fault_in gives the
-- first fault, or None if there is no fault.
abbrev pub values_in : {X : Type 0} → List (Result X Fault) → List X
values_in [] = []
values_in (Ok x ∷ items) = x ∷ values_in items
values_in (Err fault ∷ items) = []

abbrev pub fault_in : {X : Type 0} → List (Result X Fault) → Option Fault
fault_in [] = None
fault_in (Ok x ∷ items) = fault_in items
fault_in (Err fault ∷ items) = Some fault
