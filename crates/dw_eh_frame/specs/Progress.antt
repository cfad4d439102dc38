-- What is known while the records of a section are read, one after another.
use Rattle.std.specs.Prelude.{◌≡◌, ◌≤◌, ◌⊎◌, ◌==◌, ℕ, Bool, true, false, List, ◌++◌, map, length, Option, Some, Ok, IfSome}
use Rattle.std.specs.List.{list_any}
use Rattle.dw_bytes.specs.declared.fault.Fault.{Fault}
use Rattle.dw_bytes.specs.declared.fault.FaultKind.TheVariants.{NoSuchCie}
use Rattle.dw_bytes.specs.declared.target.Target.{Target}
use Rattle.dw_bytes.specs.Answers.{memory}
use Rattle.dw_frame.specs.Bounds.{ArePlaced}
use Rattle.dw_frame.specs.Records.{Cie, Fde, cies_among, fdes_among}
use Rattle.dw_eh_frame.specs.declared.pointer.Bases.{Bases}
use Rattle.dw_eh_frame.specs.declared.record.EhCie as declared
use Rattle.dw_eh_frame.specs.Records.{EhRecord, all_in_dwarf, begins_at, eh_reading_fault, eh_records_from, eh_records_of, reading_fault_after}
use Rattle.dw_eh_frame.specs.Views.{IsCieOf}

abbrev pub cie_offset : Cie → ℕ
cie_offset c = c.offset

-- whether one of the CIEs begins at an offset
abbrev pub has_cie_at : List Cie → ℕ → Bool
has_cie_at cies at = list_any (λ (c : Cie). c.offset == at) cies

-- why an FDE isn't taken that comes after these CIEs: memory, or its CIE isn't one of them
abbrev pub IsNotTaken : List Cie → Fde → Fault → Type 0
IsNotTaken cies f fault = (fault ≡ memory)
    ⊎ ((has_cie_at cies f.cie_pointer ≡ false) × (fault ≡ record { kind = NoSuchCie; at = f.cie_pointer_offset }))

-- The records before the offset `at` were read without a fault. `cies` and `fdes` are those among
-- them.
pub record IsUnderWay (a : Bool) (bases : Bases) (target : Target) (section : List ℕ) (at : ℕ) (cies : List Cie) (fdes : List Fde) : Type 0 where
  pub inside : at ≤ length section
  pub records : List EhRecord
  pub read : eh_records_of a bases target section ≡ map Ok records ++ eh_records_from a bases target section at
  pub first : eh_reading_fault a bases target section ≡ reading_fault_after records (eh_records_from a bases target section at)
  pub cies_are : cies ≡ cies_among (all_in_dwarf records)
  pub fdes_are : fdes ≡ fdes_among (all_in_dwarf records)
  pub placed : ArePlaced target 0 at (all_in_dwarf records)
  pub known : (n : ℕ) → list_any (begins_at n) records ≡ has_cie_at cies n

-- the CIE that was used last, if there was one, is one of the section and one of those that were read
abbrev pub IsLast : Bool → Target → List ℕ → List Cie → Option declared.EhCie → Type 0
IsLast a target section cies last = IfSome last (λ (c : declared.EhCie). IsCieOf a target section c × (has_cie_at cies c.cie.offset ≡ true))

-- why reading stops: memory, or the first fault of the section
abbrev pub StopsReading : Bool → Bases → Target → List ℕ → Fault → Type 0
StopsReading a bases target section fault = (fault ≡ memory) ⊎ (eh_reading_fault a bases target section ≡ Some fault)
