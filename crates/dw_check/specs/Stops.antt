-- Why a run stops before all of its text is written.
use Rattle.std.specs.Prelude.{◌≡◌, ℕ, ◌<◌, Bool, true, false, List, Option, Some, None, Result, Ok, Err}
use Rattle.dw_bytes.specs.declared.fault.Fault.{Fault}
use Rattle.dw_state.specs.StateFile.{StateFact}
use Rattle.dw_unwind.specs.declared.modules.Module.{Module}
use Rattle.dw_sections.specs.declared.section.Section.{Section}
use Rattle.dw_sections.specs.declared.whole_check.CheckFault.{CheckFault}
use Rattle.dw_check.specs.declared.stop.ReportFault.{ReportFault}
use Rattle.dw_check.specs.declared.stop.ReportFault.TheVariants as faults
use Rattle.dw_check.specs.declared.stop.RunFault.{RunFault}
use Rattle.dw_check.specs.declared.stop.RunFault.TheVariants.{Refused, BadHex, StateLine, Memory, Output}

-- why a run stops if writing fails with this fault
abbrev pub stop_of : ReportFault → RunFault
stop_of faults.Memory = Memory
stop_of faults.Write = Output

-- the result of a run, given the result of writing its text
abbrev pub ended_by : Result (Unit {0}) ReportFault → Result (Unit {0}) RunFault
ended_by (Ok _) = Ok tt
ended_by (Err fault) = Err (stop_of fault)

-- whether a run with this result left the sink stopped
abbrev pub is_output : Result (Unit {0}) RunFault → Bool
is_output (Ok _) = false
is_output (Err Output) = true
is_output (Err _) = false

-- Why the section in the file at index `place`, of `count` files, can't be read: the file must be
-- hex text and isn't, or memory ran out.
abbrev pub IsBadSection : Option (List ℕ) → ℕ → ℕ → RunFault → Type 0
IsBadSection bytes place count (BadHex n) = (n ≡ place) × (place < count) × (bytes ≡ None)
IsBadSection bytes place count Memory = Unit {0}
IsBadSection bytes place count _ = ⊥

-- Why there is no machine state: the state file has a bad line, and `StateLine` has the number of
-- the first one; or memory ran out.
abbrev pub IsBadState : Result (List StateFact) ℕ → RunFault → Type 0
IsBadState given (StateLine n) = given ≡ Err n
IsBadState given Memory = Unit {0}
IsBadState given _ = ⊥

-- Why checking a section failed: the section has a fault, and `Refused` has the first one; or
-- memory ran out.
abbrev pub IsRefusal : Section → Option Fault → RunFault → Type 0
IsRefusal section first (Refused s fault) = (s ≡ section) × (first ≡ Some fault)
IsRefusal section first Memory = Unit {0}
IsRefusal section first _ = ⊥

-- Why checking two sections failed: they have a fault, and `Refused` has the first one; or memory
-- ran out.
abbrev pub RefusesBoth : Option CheckFault → RunFault → Type 0
RefusesBoth first (Refused section fault) = first ≡ Some (record { section = section; fault = fault })
RefusesBoth first Memory = Unit {0}
RefusesBoth first _ = ⊥

-- Why the modules of `--module` can't be read, given `count` files: the file of one of them must be
-- hex text and isn't, or memory ran out.
abbrev pub AreBadModules : Result (List (Module (List ℕ))) ℕ → ℕ → RunFault → Type 0
AreBadModules modules count (BadHex n) = (modules ≡ Err n) × (n < count)
AreBadModules modules count Memory = Unit {0}
AreBadModules modules count _ = ⊥
