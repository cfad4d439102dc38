-- How numbers and faults are printed.
use Rattle.std.specs.Prelude.{ℕ, zero, suc, ◌+◌, ◌/◌, ◌%◌, if◌then◌else◌, nat_lt, List, [], ◌∷◌, ◌++◌, codes, decimal}
use Rattle.dw_bytes.specs.Faults.{number_of}
use Rattle.dw_bytes.specs.Names.{name_of}
use Rattle.dw_bytes.specs.declared.fault.Fault.{Fault}
use Rattle.dw_bytes.specs.declared.fault.FaultKind.{FaultKind}

-- the character of the hex digit d
abbrev pub digit : ℕ → ℕ
digit d = if nat_lt d 10 then 48 + d else 87 + d

-- the last k hex digits of n, the most significant digit first
unfoldable pub hex_digits : ℕ → ℕ → List ℕ
hex_digits zero n = []
hex_digits (suc k) n = hex_digits k (n / 16) ++ digit (n % 16) ∷ []

-- 0x and the last k hex digits of n
abbrev pub hex_number : ℕ → ℕ → List ℕ
hex_number k n = codes "0x" ++ hex_digits k n

-- how an offset in a section or in an expression is printed
abbrev pub offset_text : ℕ → List ℕ
offset_text n = hex_number 8 n

-- how a kind of fault is printed: its number, and then its name
unfoldable pub kind_text : FaultKind → List ℕ
kind_text kind = decimal (number_of kind) ++ codes " " ++ name_of kind

-- how a fault is printed: the number and name of its kind, and its offset
unfoldable pub fault_text : Fault → List ℕ
fault_text fault = kind_text fault.kind ++ codes " at " ++ offset_text fault.at
