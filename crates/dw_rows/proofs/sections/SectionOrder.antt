-- The CIEs and FDEs that are read from a section are in order of offset, and the FDEs cover only
-- addresses that the section's target has.
use Rattle.std.proofs.Common.{◌≡◌, ℕ, suc, zero, ◌+◌, ◌<◌, ◌≤◌, List, [], ◌∷◌, length, map, Some, None, Result, Ok, Err, Contains, refl, ap, subst, arith, length-append}
use Rattle.std.specs.List.{AllByRecursion, filter_map}
use Rattle.dw_bytes.specs.declared.target.Target.{Target}
use Rattle.dw_bytes.specs.declared.fault.Fault.{Fault}
use Rattle.dw_bytes.specs.Answers.{values_in, fault_in}
use Rattle.dw_frame.specs.Records.{Cie, Fde, Record, cie_record, fde_record, cie_in_record, fde_in_record, cies_among, fdes_among}
use Rattle.dw_frame.specs.Sections.{records_of, AreRecords}
use Rattle.dw_frame.specs.Bounds.{ArePlaced, Ascends, offset_of, IsSoundCie, IsSoundFde, IsSoundRecord}
use Rattle.dw_frame.proofs.EachRecord.{sections-are-records}
use Rattle.dw_frame.proofs.RecordBounds.{records-ascend, entries-sound}
use Rattle.dw_frame.proofs.Blocks.{sound-inside}
use Rattle.dw_rows.specs.Section.{frame_of}
use Rattle.dw_rows.specs.AddressIndex.{cie_offset, fde_offset}

-- if no item is a fault, the items are just the values that were read
pub read-whole : {X : Type 0} (items : List (Result X Fault)) → fault_in items ≡ None → items ≡ map Ok (values_in items)
read-whole [] e = refl
read-whole (Ok x ∷ items) e = ap (λ l. Ok x ∷ l) (read-whole items e)
read-whole (Err fault ∷ items) e = let clash : Some fault ≡ None = e in cc

all-cies : (n : ℕ) (records : List Record) → AllByRecursion (λ r. n < offset_of r) records
    → AllByRecursion (λ c. n < cie_offset c) (filter_map cie_in_record records)
all-cies n [] all = tt
all-cies n (cie_record c ∷ records) all = (all.0, all-cies n records all.1)
all-cies n (fde_record f ∷ records) all = all-cies n records all.1

all-fdes : (n : ℕ) (records : List Record) → AllByRecursion (λ r. n < offset_of r) records
    → AllByRecursion (λ f. n < fde_offset f) (filter_map fde_in_record records)
all-fdes n [] all = tt
all-fdes n (cie_record c ∷ records) all = all-fdes n records all.1
all-fdes n (fde_record f ∷ records) all = (all.0, all-fdes n records all.1)

ascending-cies : (records : List Record) → Ascends offset_of records → Ascends cie_offset (filter_map cie_in_record records)
ascending-cies [] up = tt
ascending-cies (cie_record c ∷ records) up = (all-cies c.offset records up.0, ascending-cies records up.1)
ascending-cies (fde_record f ∷ records) up = ascending-cies records up.1

ascending-fdes : (records : List Record) → Ascends offset_of records → Ascends fde_offset (filter_map fde_in_record records)
ascending-fdes [] up = tt
ascending-fdes (cie_record c ∷ records) up = ascending-fdes records up.1
ascending-fdes (fde_record f ∷ records) up = (all-fdes f.offset records up.0, ascending-fdes records up.1)

-- if all records of a section can be read without a fault, the section's bytes encode these records
pub are-records : (target : Target) (section : List ℕ) → fault_in (records_of target section) ≡ None
    → AreRecords target 0 section (values_in (records_of target section))
are-records target section none = (sections-are-records target section (values_in (records_of target section))).0
    (read-whole (records_of target section) none)

ascends : (target : Target) (section : List ℕ) → fault_in (records_of target section) ≡ None
    → Ascends offset_of (values_in (records_of target section))
ascends target section none = records-ascend target 0 section (values_in (records_of target section)) (are-records target section none)

pub cies-ascend : (target : Target) (section : List ℕ) → fault_in (records_of target section) ≡ None
    → Ascends cie_offset (frame_of target section).cies
cies-ascend target section none = ascending-cies (values_in (records_of target section)) (ascends target section none)

pub fdes-ascend : (target : Target) (section : List ℕ) → fault_in (records_of target section) ≡ None
    → Ascends fde_offset (frame_of target section).fdes
fdes-ascend target section none = ascending-fdes (values_in (records_of target section)) (ascends target section none)

-- if a list contains y, it still does with x in front
Contains-cons : {X : Type 0} (x y : X) (xs : List X) → Contains xs y → Contains (x ∷ xs) y
Contains-cons x y xs (k, lt, is) = (suc k, omega arith, is)

-- each FDE among the values that were read was read as a record
fde-among : (items : List (Result Record Fault)) (f : Fde) → Contains (filter_map fde_in_record (values_in items)) f
    → Contains items (Ok (fde_record f))
fde-among [] f (k, lt, is) = absurd (omega arith)
fde-among (Err fault ∷ items) f (k, lt, is) = absurd (omega arith)
fde-among (Ok (cie_record c) ∷ items) f among = Contains-cons (Ok (cie_record c)) (Ok (fde_record f)) items (fde-among items f among)
fde-among (Ok (fde_record g) ∷ items) f (zero, lt, is) = (zero, omega arith, ap (λ h. Ok (fde_record h)) is)
fde-among (Ok (fde_record g) ∷ items) f (suc k, lt, is) =
    Contains-cons (Ok (fde_record g)) (Ok (fde_record f)) items (fde-among items f (k, omega arith, is))

-- each CIE among the values that were read was read as a record
cie_record-among : (items : List (Result Record Fault)) (c : Cie) → Contains (filter_map cie_in_record (values_in items)) c
    → Contains items (Ok (cie_record c))
cie_record-among [] c (k, lt, is) = absurd (omega arith)
cie_record-among (Err fault ∷ items) c (k, lt, is) = absurd (omega arith)
cie_record-among (Ok (fde_record g) ∷ items) c among =
    Contains-cons (Ok (fde_record g)) (Ok (cie_record c)) items (cie_record-among items c among)
cie_record-among (Ok (cie_record d) ∷ items) c (zero, lt, is) = (zero, omega arith, ap (λ h. Ok (cie_record h)) is)
cie_record-among (Ok (cie_record d) ∷ items) c (suc k, lt, is) =
    Contains-cons (Ok (cie_record d)) (Ok (cie_record c)) items (cie_record-among items c (k, omega arith, is))

pub cies-sound : (target : Target) (section : List ℕ) (c : Cie) → Contains (frame_of target section).cies c
    → IsSoundCie target (length section) c
cies-sound target section c among = entries-sound target section (Ok (cie_record c)) (cie_record-among (records_of target section) c among)

-- the FDEs of a section cover only addresses that its target has, and their programs are in the
-- section
pub fdes-sound : (target : Target) (section : List ℕ) (f : Fde) → Contains (frame_of target section).fdes f
    → IsSoundFde target (length section) f
fdes-sound target section f among = entries-sound target section (Ok (fde_record f)) (fde-among (records_of target section) f among)

-- ---- records that lie one after another

pub placed-records : (target : Target) (at : ℕ) (bytes : List ℕ) (records : List Record) → AreRecords target at bytes records
    → ArePlaced target at (at + length bytes) records
placed-records target at bytes [] are = omega arith
placed-records target at bytes (x ∷ records) (first, rest, parts, here, others) =
    let own = sound-inside target at first x here in
    let long : at + length first + length rest ≡ at + length bytes = omega (arith, ap length parts, length-append first rest) in (
      at + length first,
      omega (arith, own.0),
      own.1,
      subst (λ n. ArePlaced target (at + length first) n records) long (placed-records target (at + length first) rest records others),
    )

-- the records of a section that is read without a fault lie in it
pub read-placed : (target : Target) (section : List ℕ) → fault_in (records_of target section) ≡ None
    → ArePlaced target 0 (length section) (values_in (records_of target section))
read-placed target section none =
    let same : 0 + length section ≡ length section = omega arith in
    subst (λ n. ArePlaced target 0 n (values_in (records_of target section))) same
    (placed-records target 0 section (values_in (records_of target section)) (are-records target section none))

before-next : (target : Target) (next : ℕ) (x : Record) → IsSoundRecord target next x → offset_of x < next
before-next target next (cie_record c) own = omega (arith, own.program.begins, own.program.ends)
before-next target next (fde_record f) own = omega (arith, own.program.begins, own.program.ends)

pub placed-end : (target : Target) (at end : ℕ) (records : List Record) → ArePlaced target at end records → at ≤ end
placed-end target at end [] placed = placed
placed-end target at end (x ∷ records) (next, low, own, others) =
    omega (arith, low, before-next target next x own, placed-end target next end records others)

all-past : (target : Target) (n at end : ℕ) (records : List Record) → n < at → ArePlaced target at end records
    → AllByRecursion (λ r. n < offset_of r) records
all-past target n at end [] lt placed = tt
all-past target n at end (x ∷ records) lt (next, low, own, others) =
    (omega (arith, low), all-past target n next end records (omega (arith, low, before-next target next x own)) others)

placed-ascend : (target : Target) (at end : ℕ) (records : List Record) → ArePlaced target at end records → Ascends offset_of records
placed-ascend target at end [] placed = tt
placed-ascend target at end (x ∷ records) (next, low, own, others) =
    (all-past target (offset_of x) next end records (before-next target next x own) others, placed-ascend target next end records others)

pub placed-cies-ascend : (target : Target) (at end : ℕ) (records : List Record) → ArePlaced target at end records
    → Ascends cie_offset (cies_among records)
placed-cies-ascend target at end records placed = ascending-cies records (placed-ascend target at end records placed)

pub placed-fdes-ascend : (target : Target) (at end : ℕ) (records : List Record) → ArePlaced target at end records
    → Ascends fde_offset (fdes_among records)
placed-fdes-ascend target at end records placed = ascending-fdes records (placed-ascend target at end records placed)

wider-cie : (target : Target) (next end : ℕ) (c : Cie) → next ≤ end → IsSoundCie target next c → IsSoundCie target end c
wider-cie target next end c le own = record {
  program = record { begins = own.program.begins; ends = omega (arith, own.program.ends); target_is = own.program.target_is };
  version = own.version;
  return_address_register = own.return_address_register;
}

wider-fde : (target : Target) (next end : ℕ) (f : Fde) → next ≤ end → IsSoundFde target next f → IsSoundFde target end f
wider-fde target next end f le own = record {
  program = record { begins = own.program.begins; ends = omega (arith, own.program.ends); target_is = own.program.target_is };
  pointer_past = own.pointer_past;
  pointer_before = own.pointer_before;
  range = own.range;
}

pub placed-cies-sound : (target : Target) (at end : ℕ) (records : List Record) → ArePlaced target at end records → (c : Cie)
    → Contains (cies_among records) c → IsSoundCie target end c
placed-cies-sound target at end [] placed c (k, lt, is) = absurd (omega arith)
placed-cies-sound target at end (cie_record d ∷ records) (next, low, own, others) c (zero, lt, is) =
    subst (IsSoundCie target end) is (wider-cie target next end d (placed-end target next end records others) own)
placed-cies-sound target at end (cie_record d ∷ records) (next, low, own, others) c (suc k, lt, is) =
    placed-cies-sound target next end records others c (k, omega arith, is)
placed-cies-sound target at end (fde_record f ∷ records) (next, low, own, others) c among =
    placed-cies-sound target next end records others c among

pub placed-fdes-sound : (target : Target) (at end : ℕ) (records : List Record) → ArePlaced target at end records → (f : Fde)
    → Contains (fdes_among records) f → IsSoundFde target end f
placed-fdes-sound target at end [] placed f (k, lt, is) = absurd (omega arith)
placed-fdes-sound target at end (fde_record g ∷ records) (next, low, own, others) f (zero, lt, is) =
    subst (IsSoundFde target end) is (wider-fde target next end g (placed-end target next end records others) own)
placed-fdes-sound target at end (fde_record g ∷ records) (next, low, own, others) f (suc k, lt, is) =
    placed-fdes-sound target next end records others f (k, omega arith, is)
placed-fdes-sound target at end (cie_record c ∷ records) (next, low, own, others) f among =
    placed-fdes-sound target next end records others f among
