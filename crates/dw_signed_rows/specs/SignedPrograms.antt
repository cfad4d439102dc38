-- Where the return address is signed in an FDE's program that is good, by the number of instructions
-- that were run.
use Rattle.std.specs.Prelude.{◌≡◌, ℕ, ◌+◌, Bool, true, false, not, List, [], ◌∷◌, map, reverse, take, Some, slice_get}
use Rattle.dw_frame.specs.Instructions.{Instruction, negate_ra_state, restore_state}
use Rattle.dw_frame.specs.Records.{Cie, Fde}
use Rattle.dw_rows.specs.Clauses.{program_in}
use Rattle.dw_rows.specs.GoodPrograms.{IsGoodFdeProgram, Match}
use Rattle.dw_signed_rows.specs.SignedRows.{signed_at, signed_by_cie}

-- the instructions of a program, without their offsets
abbrev pub instructions_by : List (ℕ × Instruction) → List Instruction
instructions_by items = map (λ item. item.1) items

-- whether the return address is signed after the first k instructions of the FDE's program
abbrev pub signed_after : (cie : Cie) (fde : Fde) → IsGoodFdeProgram cie fde → ℕ → Bool
signed_after cie fde good k = signed_at (signed_by_cie cie) (reverse (take k (instructions_by good.items))) 0

-- whether the instruction may change whether the return address is signed
abbrev pub changes_signature : Instruction → Bool
changes_signature negate_ra_state = true
changes_signature restore_state = true
changes_signature _ = false

-- `signed k` says whether the return address is signed after the first k instructions of the FDE's
-- program. The instruction at index k, counted from 0, changes it into `signed (k + 1)`.
pub record AreSignatures (cie : Cie) (fde : Fde) (good : IsGoodFdeProgram cie fde) (signed : ℕ → Bool) : Type 0 where
  pub first : signed 0 ≡ signed_by_cie cie
  pub negate : (k : ℕ) → slice_get (instructions_by good.items) k ≡ Some negate_ra_state
      → signed (k + 1) ≡ not (signed k)
  pub restore_state : (i j : ℕ) → Match (program_in cie fde good) i j → signed (j + 1) ≡ signed i
  pub kept : (k : ℕ) (x : Instruction) → slice_get (instructions_by good.items) k ≡ Some x
      → changes_signature x ≡ false → signed (k + 1) ≡ signed k

-- whether the list has an odd number of negate_ra_states
abbrev pub is_negated : List Instruction → Bool
is_negated [] = false
is_negated (negate_ra_state ∷ rest) = not (is_negated rest)
is_negated (_ ∷ rest) = is_negated rest
