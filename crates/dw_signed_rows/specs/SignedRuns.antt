-- Programs that are run row by row, to tell in which rows the return address is signed.
use Rattle.std.specs.Prelude.{◌≡◌, ◌≤◌, ◌<◌, ◌+◌, ◌&&◌, ◌||◌, nat_le, nat_lt, ℕ, Bool, true, false, List, length, map, None, Result}
use Rattle.dw_bytes.specs.declared.fault.Fault.{Fault}
use Rattle.dw_frame.specs.Instructions.{Instruction}
use Rattle.dw_frame.specs.Records.{Cie, Fde}
use Rattle.dw_rules.specs.Effects.{Effect, advances_loc, sets_loc, effect_of}
use Rattle.dw_rules.specs.InForce.{fde_start}
use Rattle.dw_rules.specs.ProgramFault.{fde_fault_from}
use Rattle.dw_signed_rows.specs.SignedRows.{instructions_in, is_signed_after, location_by, signed_by_cie}
use Rattle.dw_signed_rows.specs.Signatures.{IsAfter, SignatureState}
use Rattle.dw_signed_rows.specs.declared.signed_program.SignedRow.{SignedRow}

-- the location after an instruction with the given effect
abbrev pub moved_by : Effect → ℕ → ℕ
moved_by (advances_loc n) at = at + n
moved_by (sets_loc a) at = a
moved_by _ at = at

-- The location that a program has reached, and whether the return address is signed there.
pub record SignedState : Type 0 where
  pub location : ℕ
  pub signature : SignatureState

-- The program of an FDE, which has no fault, was run up to the instructions `items`, which are left.
-- `m` is the state now.
pub record IsRunning (c : Cie) (f : Fde) (items : List (Result (ℕ × Instruction) Fault)) (m : SignedState) : Type 0 where
  pub before : List Instruction
  pub fault : fde_fault_from c f (map (effect_of c) before) items ≡ None
  pub location : m.location ≡ location_by c (fde_start c f) before
  pub within : m.location ≤ f.initial_location + f.address_range
  pub first : m.signature.first ≡ signed_by_cie c
  pub signature : IsAfter c before m.signature

-- whether the address has one of the rows that are left, and the return address is signed there
abbrev pub is_left_signed : (c : Cie) (f : Fde) (items : List (Result (ℕ × Instruction) Fault)) (m : SignedState)
    → IsRunning c f items m → ℕ → Bool
is_left_signed c f items m run a = is_signed_after c (fde_start c f) (signed_by_cie c) run.before (instructions_in items) a

-- whether the row has the address, and the return address is signed in it
abbrev pub is_signed_row : SignedRow → ℕ → Bool
is_signed_row row a = (nat_le row.start a && nat_lt a row.end) && row.is_signed

-- the row was the first one of those that were left, and there are others
pub record HasPassed (c : Cie) (f : Fde) (items : List (Result (ℕ × Instruction) Fault)) (m : SignedState)
    (run : IsRunning c f items m) (row : SignedRow) (rest : List (Result (ℕ × Instruction) Fault)) (new : SignedState) : Type 0 where
  pub on : IsRunning c f rest new
  pub parted : (a : ℕ) → is_left_signed c f items m run a ≡ (is_signed_row row a || is_left_signed c f rest new on a)
  pub start : row.start ≡ m.location
  pub end : row.end ≡ new.location
  pub forward : m.location ≤ new.location

-- the row was the last one
pub record HasPassedLast (c : Cie) (f : Fde) (items : List (Result (ℕ × Instruction) Fault)) (m : SignedState)
    (run : IsRunning c f items m) (row : SignedRow) : Type 0 where
  pub whole : (a : ℕ) → is_left_signed c f items m run a ≡ is_signed_row row a
  pub start : row.start ≡ m.location
  pub end : row.end ≡ f.initial_location + f.address_range

-- what running a program up to the end of a row returns and changes
abbrev pub Passes : (c : Cie) (f : Fde) (items : List (Result (ℕ × Instruction) Fault)) (m : SignedState)
    → IsRunning c f items m → Bool → SignedRow → List (Result (ℕ × Instruction) Fault) → SignedState → Type 0
Passes c f items m run true row rest new = HasPassedLast c f items m run row
Passes c f items m run false row rest new = HasPassed c f items m run row rest new × (length rest < length items)
