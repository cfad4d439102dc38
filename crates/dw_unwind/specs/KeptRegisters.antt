-- Callee-saved registers that are marked by number.
use Rattle.std.specs.Prelude.{◌≡◌, ◌<◌, ◌==◌, ◌||◌, if◌then◌else◌, ℕ, List, length}
use Rattle.std.proofs.Math.ListN.{get_or}
use Rattle.dw_rules.specs.Abi.{is_among}
use Rattle.dw_unwind.specs.declared.register_file.TheConstants.{PLACES}

-- exactly the registers with these numbers are marked, by a 1, of those that have a place
pub record AreMarksOf (numbers marks : List ℕ) : Type 0 where
  pub length_is : length marks ≡ PLACES
  pub each : (r : ℕ) → r < PLACES → get_or marks r 0 ≡ (if is_among r numbers then 1 else 0)

-- `new` has the marks of `old` and one for the register `number`, if that has a place
pub record IsMarked (number : ℕ) (old new : List ℕ) : Type 0 where
  pub length_is : length new ≡ length old
  pub each : (r : ℕ) → r < PLACES → get_or new r 0 ≡ (if number == r then 1 else get_or old r 0)

-- a flag of `new` is 0 exactly if that of `old` is 0 or there is no mark
pub record ArePicked (marks old new : List ℕ) : Type 0 where
  pub length_is : length new ≡ length old
  pub each : (r : ℕ) → (get_or new r 0 == 0) ≡ ((get_or old r 0 == 0) || (get_or marks r 0 == 0))

-- The flag of the register `number`, if that has a place, is what it is in `old`, and the others
-- are those of `flags`.
pub record IsRestored (number : ℕ) (old flags new : List ℕ) : Type 0 where
  pub length_is : length new ≡ length flags
  pub each : (r : ℕ) → r < PLACES → get_or new r 0 ≡ (if number == r then get_or old r 0 else get_or flags r 0)

-- each flag of `new` is that of `old` if its register is among those with these numbers, else 0
pub record AreListed (numbers : List ℕ) (old new : List ℕ) : Type 0 where
  pub length_is : length new ≡ PLACES
  pub each : (r : ℕ) → r < PLACES → get_or new r 0 ≡ (if is_among r numbers then get_or old r 0 else 0)
