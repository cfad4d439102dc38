-- A section without fault is well formed, and accepted.
use Rattle.std.proofs.Common.{◌≡◌, ℕ, ◌↔◌, Bool, List, [], ◌∷◌, ◌++◌, length, map, Option, Some, None, Result, Ok, Err, refl, sym, ap, subst, ◌∙◌}
use Rattle.std.specs.Option.{option_or}
use Rattle.dw_bytes.specs.Answers.{values_in}
use Rattle.dw_bytes.specs.declared.target.Target.{Target}
use Rattle.dw_bytes.specs.declared.fault.Fault.{Fault}
use Rattle.dw_frame.specs.Bounds.{ArePlaced}
use Rattle.dw_frame.specs.Records.{Record, cies_among, fdes_among}
use Rattle.dw_rows.specs.Section.{parts_fault}
use Rattle.dw_rows.specs.WellFormed.{AreGood}
use Rattle.dw_eh_frame.specs.declared.pointer.Bases.{Bases}
use Rattle.dw_eh_frame.specs.Copies.{distinct, eh_frame_records}
use Rattle.dw_eh_frame.specs.Encoding.{AreEhRecords}
use Rattle.dw_eh_frame.specs.Records.{EhRecord, all_in_dwarf, eh_records_of, eh_reading_fault, earlier_cie_fault, reading_fault_after}
use Rattle.dw_eh_rows.specs.Section.{IsEhWellFormed, eh_section_fault}

-- the laws of the crates below that are used here
pub record SectionLaws : Type 0 where
  pub encoded : (is_aarch64 : Bool) (bases : Bases) (target : Target) (section : List ℕ) (records : List EhRecord)
      → AreEhRecords is_aarch64 bases target [] 0 section records
      ↔ ((eh_records_of is_aarch64 bases target section ≡ map Ok records) × (eh_reading_fault is_aarch64 bases target section ≡ None))
  pub placed : (is_aarch64 : Bool) (bases : Bases) (target : Target) (section : List ℕ) (records : List EhRecord)
      → AreEhRecords is_aarch64 bases target [] 0 section records → ArePlaced target 0 (length section) (distinct (all_in_dwarf records))
  pub good : (target : Target) (at end : ℕ) (records : List Record) → ArePlaced target at end records
      → (parts_fault (cies_among records) (fdes_among records) ≡ None) ↔ AreGood records

both-none : (a b : Option Fault) → option_or a b ≡ None → (a ≡ None) × (b ≡ None)
both-none None b is = (refl, is)
both-none (Some fault) b is = absurd cc

-- if reading a section has no fault, all items are records
read-whole : (before : List EhRecord) (items : List (Result EhRecord Fault)) → reading_fault_after before items ≡ None
    → items ≡ map Ok (values_in {X = EhRecord} items)
read-whole before [] none = refl
read-whole before (Err fault ∷ items) none = absurd cc
read-whole before (Ok x ∷ items) none =
    let split = both-none (earlier_cie_fault before x) (reading_fault_after (before ++ x ∷ []) items) none in
    ap (λ (l : List (Result EhRecord Fault)). Ok x ∷ l) (read-whole (before ++ x ∷ []) items split.1)

pub values-read : (xs : List EhRecord) → values_in {X = EhRecord} (map Ok xs) ≡ xs
values-read [] = refl
values-read (x ∷ xs) = ap (λ (l : List EhRecord). x ∷ l) (values-read xs)

abbrev pub read-of : Bool → Bases → Target → List ℕ → List EhRecord
read-of is_aarch64 bases target section = values_in (eh_records_of is_aarch64 bases target section)

-- what is read of a section without fault
pub record IsFaultless (is_aarch64 : Bool) (bases : Bases) (target : Target) (section : List ℕ) : Type 0 where
  pub encoded : AreEhRecords is_aarch64 bases target [] 0 section (read-of is_aarch64 bases target section)
  pub placed : ArePlaced target 0 (length section) (eh_frame_records is_aarch64 bases target section)
  pub none : parts_fault (cies_among (eh_frame_records is_aarch64 bases target section)) (fdes_among (eh_frame_records is_aarch64 bases target section))
      ≡ None
  pub good : AreGood (eh_frame_records is_aarch64 bases target section)

pub faultless : SectionLaws → (is_aarch64 : Bool) (bases : Bases) (target : Target) (section : List ℕ)
    → eh_section_fault is_aarch64 bases target section ≡ None → IsFaultless is_aarch64 bases target section
unfolding eh_section_fault eh_reading_fault
faultless laws is_aarch64 bases target section none =
    let kept = eh_frame_records is_aarch64 bases target section in
    let split = both-none (eh_reading_fault is_aarch64 bases target section) (parts_fault (cies_among kept) (fdes_among kept)) none in
    let read = read-whole [] (eh_records_of is_aarch64 bases target section) split.0 in
    let encoded = (laws.encoded is_aarch64 bases target section (read-of is_aarch64 bases target section)).1 (read, split.0) in
    let placed = laws.placed is_aarch64 bases target section (read-of is_aarch64 bases target section) encoded in
    record { encoded = encoded; placed = placed; none = split.1; good = (laws.good target 0 (length section) kept placed).0 split.1 }

no-fault : SectionLaws → (is_aarch64 : Bool) (bases : Bases) (target : Target) (section : List ℕ)
    → IsEhWellFormed is_aarch64 bases target section → eh_section_fault is_aarch64 bases target section ≡ None
unfolding eh_section_fault
no-fault laws is_aarch64 bases target section w =
    let read = (laws.encoded is_aarch64 bases target section w.records).0 w.encoded in
    let placed = laws.placed is_aarch64 bases target section w.records w.encoded in
    let none = (laws.good target 0 (length section) (distinct (all_in_dwarf w.records)) placed).1 w.good in
    let values : w.records ≡ read-of is_aarch64 bases target section =
    sym (values-read w.records) ∙ ap (λ items. values_in {X = EhRecord} items) (sym read.0) in
    let parts : parts_fault (cies_among (eh_frame_records is_aarch64 bases target section))
    (fdes_among (eh_frame_records is_aarch64 bases target section)) ≡ None =
    subst (λ (l : List EhRecord). parts_fault (cies_among (distinct (all_in_dwarf l))) (fdes_among (distinct (all_in_dwarf l))) ≡ None)
    values none in
    rw read.1 parts

pub well-formed : SectionLaws → (is_aarch64 : Bool) (bases : Bases) (target : Target) (section : List ℕ)
    → (eh_section_fault is_aarch64 bases target section ≡ None) ↔ IsEhWellFormed is_aarch64 bases target section
well-formed laws is_aarch64 bases target section = (
  (λ none. let f = faultless laws is_aarch64 bases target section none in
      record { records = read-of is_aarch64 bases target section; encoded = f.encoded; good = f.good }),
  no-fault laws is_aarch64 bases target section,
)
