-- The only frame of a walk through a closed process.
use Rattle.std.proofs.Common.{◌≡◌, ◌≢◌, ℕ, List, [], ◌∷◌, length, Option, None, refl, arith}
use Rattle.std.specs.Prelude.{slice_set}
use Rattle.dw_rules.specs.Abi.{Abi}
use Rattle.dw_unwind.specs.Walks.{WalkedFrame}
use Rattle.dw_unwind.specs.declared.frames.Stop.TheVariants.{Limit, NotCovered}
use Rattle.dw_c_types.specs.declared.answer.CFrame.{CFrame}
use Rattle.dw_c_types.specs.Frames.{IsBacktrace, cframe_of, stop_number}

module _ (abi : Abi) (memory registers : ℕ → Option ℕ) (bits address : ℕ) where
  abbrev only : WalkedFrame
  only = record { address = address; caller = None }

  pub no-slot : (old : List CFrame) → length old ≡ 0 → IsBacktrace None abi memory bits registers address old old 0 (stop_number Limit)
  no-slot [] is = record {
    frames = record {
      frames = [];
      why = Limit;
      walks = record { are = tt; few = omega arith; ends = refl };
      written = refl;
      count_is = refl;
      stop_is = refl;
    };
  }
  no-slot (slot ∷ rest) is = absurd (omega (arith, is))

  pub one-slot : (old : List CFrame) → length old ≡ 1
      → IsBacktrace None abi memory bits registers address old (slice_set old 0 (cframe_of only)) 1 (stop_number Limit)
  one-slot [] is = absurd (omega (arith, is))
  one-slot (slot ∷ []) is = record {
    frames = record {
      frames = only ∷ [];
      why = Limit;
      walks = record { are = ((refl, refl), tt); few = omega arith; ends = refl };
      written = refl;
      count_is = refl;
      stop_is = refl;
    };
  }
  one-slot (slot ∷ next ∷ rest) is = absurd (omega (arith, is))

  pub more-slots : (old : List CFrame) → length old ≢ 0 → length old ≢ 1
      → IsBacktrace None abi memory bits registers address old (slice_set old 0 (cframe_of only)) 1 (stop_number NotCovered)
  more-slots [] some more = absurd (some refl)
  more-slots (slot ∷ []) some more = absurd (more refl)
  more-slots (slot ∷ next ∷ rest) some more = record {
    frames = record {
      frames = only ∷ [];
      why = NotCovered;
      walks = record { are = ((refl, refl), tt); few = omega arith; ends = grind arith };
      written = refl;
      count_is = refl;
      stop_is = refl;
    };
  }
