-- What the code's type for a running program stands for.
use Rattle.std.specs.Prelude.{◌≡◌, ◌-◌, ℕ, zero, suc, not, Bool, List, [], ◌∷◌, length, map}
use Rattle.dw_frame.specs.Instructions.{Instruction, negate_ra_state}
use Rattle.dw_frame.specs.Records.{Cie}
use Rattle.dw_rules.specs.Effects.{effect_of}
use Rattle.dw_rules.specs.InForce.{open_count}
use Rattle.dw_signed_rows.specs.SignedRows.{signed_at}

-- Whether the return address is signed before a program's first instruction and now, and what its
-- remember_states have saved, the newest first.
pub record SignatureState : Type 0 where
  pub first : Bool
  pub is_signed : Bool
  pub remembered : List Bool

-- what d restore_states more would put back
abbrev pub saved_at : Bool → List Bool → ℕ → Bool
saved_at first [] d = first
saved_at first (b ∷ saved) zero = b
saved_at first (b ∷ saved) (suc d) = saved_at first saved d

-- `m` is the state after the instructions `before`, which are in reverse order
pub record IsAfter (cie : Cie) (before : List Instruction) (m : SignatureState) : Type 0 where
  pub now : m.is_signed ≡ signed_at m.first before 0
  pub saved : (d : ℕ) → saved_at m.first m.remembered d ≡ signed_at m.first before (suc d)
  pub depth : (d : ℕ) → open_count (map (effect_of cie) before) d ≡ length m.remembered - d

-- what an instruction of a CIE, which has no remember_states, does
abbrev pub turned_by : Instruction → Bool → Bool
turned_by negate_ra_state b = not b
turned_by _ b = b
