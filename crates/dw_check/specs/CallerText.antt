-- The text of a caller: a line for its CFA, one for each of its registers, and one for its return
-- address.
use Rattle.std.specs.Prelude.{ℕ, List, ◌++◌, Option, Some, None, codes, decimal}
use Rattle.std.specs.List.{flat_map}
use Rattle.dw_bytes.specs.declared.target.AddressSize.{AddressSize}
use Rattle.dw_unwind.specs.Caller.{Answer, value, undefined, unreadable, division_by_zero, Caller}
use Rattle.dw_check.specs.Text.{address_text}

-- an answer: its value, shown with as many hex digits as an address; or why it has no value
abbrev pub answer_text : AddressSize → Answer → List ℕ
answer_text size (value v) = codes "value " ++ address_text size v
answer_text size undefined = codes "undefined"
answer_text size unreadable = codes "unreadable"
answer_text size division_by_zero = codes "division by zero"

-- the line of the CFA or of the return address: the word for it, and the answer
unfoldable pub answer_line : AddressSize → List ℕ → Answer → List ℕ
answer_line size what answer = what ++ codes " " ++ answer_text size answer ++ codes "\n"

-- the line of a register: its number and its answer
unfoldable pub found_line : AddressSize → ℕ × Answer → List ℕ
found_line size found = codes "r" ++ decimal found.0 ++ codes " " ++ answer_text size found.1 ++ codes "\n"

-- the lines of a caller, with its registers in ascending order; the line `none` if there is no
-- caller
unfoldable pub caller_text : AddressSize → Option Caller → List ℕ
caller_text size (Some caller) = answer_line size (codes "cfa") caller.cfa ++ flat_map (found_line size) caller.registers
    ++ answer_line size (codes "return") caller.return_address
caller_text size None = codes "none\n"
