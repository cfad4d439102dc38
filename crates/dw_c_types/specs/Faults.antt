-- C's struct for a fault.
use Rattle.std.specs.Prelude.{◌≡◌, ℕ, Option, Some}
use Rattle.dw_bytes.specs.declared.fault.Fault.{Fault}
use Rattle.dw_bytes.specs.Faults.{number_of}
use Rattle.dw_c_types.specs.declared.fault.CFault.{CFault}

abbrev pub cfault_of : ℕ → Fault → CFault
cfault_of within fault = record { number = number_of fault.kind; offset = fault.at; within = within; reserved = 0 }

-- `first` is a fault, and `report` is C's struct for it; `within` says which input its offset
-- refers to
abbrev pub Reports : ℕ → Option Fault → CFault → Type 0
Reports within first report = (fault : Fault) × (first ≡ Some fault) × (report ≡ cfault_of within fault)
