-- Records that lie one after another.
use Rattle.std.proofs.Common.{◌≡◌, ℕ, ◌+◌, ◌<◌, ◌≤◌, List, [], ◌∷◌, ◌++◌, length, arith}
use Rattle.std.specs.List.{AllByRecursion}
use Rattle.dw_bytes.specs.declared.target.Target.{Target}
use Rattle.dw_frame.specs.Bounds.{ArePlaced, Ascends, IsSoundRecord, offset_of}
use Rattle.dw_frame.specs.Records.{Record, cie_record, fde_record, cies_among}
use Rattle.dw_eh_frame.specs.Progress.{cie_offset}

pub placed-later : (target : Target) (at end next : ℕ) (xs : List Record) → end ≤ next → ArePlaced target at end xs → ArePlaced target at next xs
placed-later target at end next [] le are = omega (arith, le, are)
placed-later target at end next (x ∷ xs) le (onward, begins, sound, others) = (onward, begins, sound, placed-later target onward end next xs le others)

pub placed-from : (target : Target) (low at end : ℕ) (records : List Record) → low ≤ at → ArePlaced target at end records
    → ArePlaced target low end records
placed-from target low at end [] less placed = omega arith
placed-from target low at end (x ∷ xs) less (next, from, sound, others) = (next, omega arith, sound, others)

pub placed-more : (target : Target) (at end next : ℕ) (xs : List Record) (y : Record) → ArePlaced target at end xs → offset_of y ≡ end
    → IsSoundRecord target next y → ArePlaced target at next (xs ++ y ∷ [])
placed-more target at end next [] y are here sound = (next, omega (arith, are, here), sound, omega arith)
placed-more target at end next (x ∷ xs) y (onward, begins, x_sound, others) here sound =
    (onward, begins, x_sound, placed-more target onward end next xs y others here sound)

-- a record has at least one byte
pub sound-forward : (target : Target) (next : ℕ) (x : Record) → IsSoundRecord target next x → offset_of x < next
sound-forward target next (cie_record c) sound = omega (arith, sound.program.begins, sound.program.ends)
sound-forward target next (fde_record f) sound = omega (arith, sound.program.begins, sound.program.ends)

pub placed-few : (target : Target) (at end : ℕ) (xs : List Record) → ArePlaced target at end xs → at + length xs ≤ end
placed-few target at end [] are = omega (arith, are)
placed-few target at end (x ∷ xs) (onward, begins, sound, others) =
    omega (arith, begins, sound-forward target onward x sound, placed-few target onward end xs others)

-- ---- the CIEs are in order of offset

above : (target : Target) (n at end : ℕ) (xs : List Record) → n < at → ArePlaced target at end xs
    → AllByRecursion (λ c. n < cie_offset c) (cies_among xs)
above target n at end [] less are = tt
above target n at end (cie_record c ∷ xs) less (onward, begins, sound, others) = (
  omega (arith, less, begins),
  above target n onward end xs (omega (arith, less, begins, sound-forward target onward (cie_record c) sound)) others,
)
above target n at end (fde_record f ∷ xs) less (onward, begins, sound, others) =
    above target n onward end xs (omega (arith, less, begins, sound-forward target onward (fde_record f) sound)) others

pub placed-ascend : (target : Target) (at end : ℕ) (xs : List Record) → ArePlaced target at end xs → Ascends cie_offset (cies_among xs)
placed-ascend target at end [] are = tt
placed-ascend target at end (cie_record c ∷ xs) (onward, begins, sound, others) = (
  above target c.offset onward end xs (sound-forward target onward (cie_record c) sound) others,
  placed-ascend target onward end xs others,
)
placed-ascend target at end (fde_record f ∷ xs) (onward, begins, sound, others) = placed-ascend target onward end xs others
