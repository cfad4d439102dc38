-- States what holds for the fields of `FrameRegisters`, the list that a walk fills with the
-- registers of a caller.
use Rattle.std.specs.Prelude.{◌≡◌, ℕ, suc, ◌≤◌, Bool, true, List, [], ◌∷◌, length, take}
use Rattle.dw_unwind.specs.declared.unwinding.Answer.{Answer}

-- the register numbers ascend, are `n` or more, and are below `bound`
abbrev pub Ascends : ℕ → List (ℕ × Answer) → ℕ → Type 0
Ascends n [] bound = n ≤ bound
Ascends n (x ∷ xs) bound = (n ≤ x.0) × Ascends (suc x.0) xs bound

-- The list `found` has `most` slots for registers, and the first `count` slots are in use. `places`
-- has `guesses` entries, each a guess of the index of a register in `found`. If `is_ascending` is
-- true, the register numbers in use ascend and are below `bound`.
pub record IsRoom (most guesses : ℕ) (found : List (ℕ × Answer)) (count : ℕ) (places : List ℕ) (is_ascending : Bool) (bound : ℕ) : Type 0 where
  pub few : count ≤ most
  pub room : length found ≡ most
  pub guessed : length places ≡ guesses
  pub ascends : is_ascending ≡ true → Ascends 0 (take count found) bound
