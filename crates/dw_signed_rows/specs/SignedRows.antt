-- Where return addresses are signed (DWARF for the Arm 64-bit Architecture, section 4.4.1). It is a part
-- of the row, as its rules are: negate_ra_state turns it around, and remember_state and restore_state
-- save it and put it back with the rules. In this file `before` is the instructions up to some point, in
-- reverse order.
use Rattle.std.specs.Prelude.{ℕ, zero, suc, ◌&&◌, ◌||◌, not, nat_le, nat_lt, Bool, false, List, [], ◌∷◌, map, reverse, Result}
use Rattle.dw_bytes.specs.Answers.{values_in}
use Rattle.dw_bytes.specs.declared.fault.Fault.{Fault}
use Rattle.dw_frame.specs.Codes.{instructions_of}
use Rattle.dw_frame.specs.Instructions.{Instruction, remember_state, restore_state, negate_ra_state}
use Rattle.dw_frame.specs.Records.{Cie, Fde}
use Rattle.dw_rules.specs.Effects.{effect_of}
use Rattle.dw_rules.specs.InForce.{Start, location_of, fde_start}

-- Whether the return address is signed after the instructions `before` and d more restore_states, if
-- `first` says whether it is before all of them. With d = 0 it is the state after `before`. As in
-- `rule_at` of dw_rules, a restore_state adds one to d, a remember_state subtracts one unless d is 0,
-- and negate_ra_state counts only if d is 0.
abbrev pub signed_at : Bool → List Instruction → ℕ → Bool
signed_at first [] d = first
signed_at first (restore_state ∷ before) d = signed_at first before (suc d)
signed_at first (remember_state ∷ before) zero = signed_at first before zero
signed_at first (remember_state ∷ before) (suc d) = signed_at first before d
signed_at first (negate_ra_state ∷ before) zero = not (signed_at first before zero)
signed_at first (_ ∷ before) d = signed_at first before d

-- the instructions of a program before the first one that can't be read
abbrev pub instructions_in : List (Result (ℕ × Instruction) Fault) → List Instruction
instructions_in items = map (λ item. item.1) (values_in items)

-- No return address is signed before a CIE's program, and FDEs begin with what that program leaves.
abbrev pub signed_by_cie : Cie → Bool
signed_by_cie cie = signed_at false (reverse (instructions_in (instructions_of cie.program))) 0

-- the location after the instructions `before`
abbrev pub location_by : Cie → Start → List Instruction → ℕ
location_by cie s before = location_of s (map (effect_of cie) before)

-- whether the address is one of the row that the instructions `before` leave and that ends before the
-- address `to`, and the return address is signed in that row
abbrev pub is_signed_up_to : Cie → Start → Bool → List Instruction → ℕ → ℕ → Bool
is_signed_up_to cie s first before to a =
    (nat_le (location_by cie s before) a && nat_lt a to) && signed_at first before 0

-- The same for the rows that the rest of a program gives. As in `rows_after` of dw_rows, an instruction
-- that moves the location ends a row at the new location, and the program's end ends the last row.
abbrev pub is_signed_after : Cie → Start → Bool → List Instruction → List Instruction → ℕ → Bool
is_signed_after cie s first before [] a = is_signed_up_to cie s first before s.end a
is_signed_after cie s first before (x ∷ rest) a =
    is_signed_up_to cie s first before (location_by cie s (x ∷ before)) a || is_signed_after cie s first (x ∷ before) rest a

-- whether the address has a row of the FDE, whose CIE is `cie`, in which the return address is signed
unfoldable pub is_signed_in : Cie → Fde → ℕ → Bool
is_signed_in cie fde a =
    is_signed_after cie (fde_start cie fde) (signed_by_cie cie) [] (instructions_in (instructions_of fde.program)) a
