-- Records of `.eh_frame` that are encoded one after another lie one after another, as DWARF has them.
use Rattle.std.proofs.Common.{◌≡◌, ℕ, ◌+◌, ◌<◌, ◌≤◌, Bool, true, false, cond, List, [], ◌∷◌, ◌++◌, length, refl, sym, ap, subst, arith, inl, inr}
use Rattle.std.specs.Prelude.{◌&&◌, ◌==◌}
use Rattle.std.proofs.lemmas.Bool.{leb-true}
use Rattle.std.proofs.lemmas.List.{length-append}
use Rattle.dw_bytes.specs.declared.target.Target.{Target}
use Rattle.dw_bytes.specs.declared.target.Format.{Format}
use Rattle.dw_bytes.specs.declared.fault.FaultKind.TheVariants.{AddressSize, SegmentSize, RegisterNumber}
use Rattle.dw_bytes.specs.Encoding.{bytes_of_address}
use Rattle.dw_bytes.specs.Operands.{fixed, unsigned}
use Rattle.dw_bytes.specs.Fields.{made, field, byte, Encodes}
use Rattle.dw_bytes.proofs.FieldsOf.{passed}
use Rattle.dw_frame.specs.Bounds.{ArePlaced}
use Rattle.dw_frame.specs.Records.{is_version}
use Rattle.dw_frame.specs.Sections.{CieHeader, top_of, is_register, column_fault, factors}
use Rattle.dw_frame.proofs.EachRecord.{some-length}
use Rattle.dw_eh_frame.specs.declared.pointer.Bases.{Bases}
use Rattle.dw_eh_frame.specs.Copies.{distinct}
use Rattle.dw_eh_frame.specs.Encoding.{IsEhCie, IsEhFde, IsEhRecord, AreEhRecords}
use Rattle.dw_eh_frame.specs.Records.{EhRecord, eh_cie, eh_fde, eh_nothing, all_in_dwarf}
use Rattle.dw_eh_frame.specs.Views.{LiesAt}
use Rattle.dw_eh_frame.proofs.Distinct.{distinct-placed}
use Rattle.dw_eh_frame.proofs.Placed.{placed-from}

-- ---- what a CIE says

column-known : (target : Target) (at : ℕ) (is_byte : Bool) (make : ℕ → CieHeader) (bytes : List ℕ) (h : CieHeader)
    → Encodes target (cond is_byte (field (fixed 1) column_fault (λ n. made (make n)))
    (field unsigned column_fault (λ n. made (make n)))) at bytes h
    → (n : ℕ) × (n ≤ 65535) × (h ≡ make n)
column-known target at true make bytes h s = (s.0, leb-true s.0 65535 (passed (is_register s.0) RegisterNumber s.5), s.6.1)
column-known target at false make bytes h s = (s.0, leb-true s.0 65535 (passed (is_register s.0) RegisterNumber s.5), s.6.1)

-- the version and the return address register are in range
record IsKnown (h : CieHeader) : Type 0 where
  version : is_version h.version ≡ true
  column : h.return_address_register ≤ 65535

factors-known : (target : Target) (version at : ℕ) (bytes : List ℕ) (h : CieHeader) → is_version version ≡ true
    → Encodes target (factors (λ header. header) version) at bytes h → IsKnown h
factors-known target version at bytes h known s =
    let make : ℕ → CieHeader = λ n. record {
      version = version;
      code_alignment_factor = s.0;
      data_alignment_factor = s.6.0;
      return_address_register = n;
    } in
    let column = column-known target _ (version == 1) make s.6.2 h s.6.6 in
    subst IsKnown (sym column.2) (record { version = known; column = column.1 })

header-known : (target : Target) (version at : ℕ) (has_sizes : Bool) (bytes : List ℕ) (h : CieHeader) → is_version version ≡ true
    → Encodes target (cond has_sizes (byte AddressSize (bytes_of_address target.address_size)
    (byte SegmentSize 0 (factors (λ header. header) version))) (factors (λ header. header) version)) at bytes h
    → IsKnown h
header-known target version at true bytes h known s = factors-known target version _ s.6.2 h known s.6.6
header-known target version at false bytes h known s = factors-known target version at bytes h known s

-- ---- one record

cie-lies : (is_aarch64 : Bool) (target : Target) (at : ℕ) (format : Format) (place : ℕ) (bytes : List ℕ) (x : EhRecord) → at < place
    → IsEhCie is_aarch64 target at format place bytes x → LiesAt target at (place + length bytes) x
cie-lies is_aarch64 target at format place bytes x before s =
    let h = s.head_is in
    let known = header-known target h.version _ (h.version == 4) h.numbers s.head.numbers h.version_known h.numbers_are in
    let long = length-append s.id (s.fields ++ s.program) in
    let longer = length-append s.fields s.program in
    subst (LiesAt target at (place + length bytes)) (sym s.record_is) (
      refl,
      record {
        program = record { begins = omega arith; ends = omega (arith, ap length s.parts, long, longer); target_is = refl };
        version = known.version;
        return_address_register = known.column;
      },
    )

first-true : (a b : Bool) → (a && b) ≡ true → a ≡ true
first-true true b both = refl
first-true false b both = both

fde-lies : (bases : Bases) (target : Target) (earlier : List EhRecord) (at : ℕ) (format : Format) (place : ℕ) (bytes : List ℕ) (x : EhRecord)
    → at < place → IsEhFde bases target earlier at format place bytes x → LiesAt target at (place + length bytes) x
fde-lies bases target earlier at format place bytes x before s =
    let fits = leb-true (s.addresses.0 + s.addresses.1) (top_of target) (first-true _ _ s.fields_are.range_is.fits) in
    let four = s.pointer_is.count in
    let long = length-append s.pointer (s.fields ++ s.program) in
    let longer = length-append s.fields s.program in
    subst (LiesAt target at (place + length bytes)) (sym s.record_is) (
      refl,
      record {
        program = record { begins = omega arith; ends = omega (arith, ap length s.parts, long, longer); target_is = refl };
        pointer_past = before;
        pointer_before = omega (arith, four);
        range = fits;
      },
    )

-- a record is sound, and its program ends by the record's end
pub record-lies : (is_aarch64 : Bool) (bases : Bases) (target : Target) (earlier : List EhRecord) (at : ℕ) (bytes : List ℕ) (x : EhRecord)
    → IsEhRecord is_aarch64 bases target earlier at bytes x → LiesAt target at (at + length bytes) x
record-lies is_aarch64 bases target earlier at bytes x s =
    let front = some-length target.order s.front s.format (length s.body) s.length_is in
    let ends : at + length s.front + length s.body ≡ at + length bytes = omega (arith, ap length s.parts, length-append s.front s.body) in
    let before : at < at + length s.front = omega (arith, front) in
    elim s.body_is [
      | inl nothing ↦ subst (LiesAt target at (at + length bytes)) (sym nothing.record_is) refl
      | inr (inl cie) ↦ subst (λ n. LiesAt target at n x) ends
          (cie-lies is_aarch64 target at s.format (at + length s.front) s.body x before cie)
      | inr (inr fde) ↦ subst (λ n. LiesAt target at n x) ends
          (fde-lies bases target earlier at s.format (at + length s.front) s.body x before fde)
    ]

-- ---- records one after another

pub placed-after : (is_aarch64 : Bool) (bases : Bases) (target : Target) (earlier : List EhRecord) (at : ℕ) (bytes : List ℕ)
    (records : List EhRecord) → AreEhRecords is_aarch64 bases target earlier at bytes records
    → ArePlaced target at (at + length bytes) (all_in_dwarf records)
placed-after is_aarch64 bases target earlier at bytes [] are = omega arith
placed-after is_aarch64 bases target earlier at bytes (x ∷ xs) (first, rest, parts, is, others) =
    let next = at + length first in
    let ends : next + length rest ≡ at + length bytes = omega (arith, ap length parts, length-append first rest) in
    let later = subst (λ n. ArePlaced target next n (all_in_dwarf xs)) ends
    (placed-after is_aarch64 bases target (earlier ++ x ∷ []) next rest xs others) in
    go x (record-lies is_aarch64 bases target earlier at first x is) later
  where
    go : (x : EhRecord) → LiesAt target at (at + length first) x → ArePlaced target (at + length first) (at + length bytes) (all_in_dwarf xs)
        → ArePlaced target at (at + length bytes) (all_in_dwarf (x ∷ xs))
    go (eh_nothing n) lies later = placed-from target at (at + length first) (at + length bytes) (all_in_dwarf xs) (omega arith) later
    go (eh_cie e) lies later = (at + length first, omega (arith, lies.0), lies.1, later)
    go (eh_fde e) lies later = (at + length first, omega (arith, lies.0), lies.1, later)

pub placed-records : (is_aarch64 : Bool) (bases : Bases) (target : Target) (section : List ℕ) (records : List EhRecord)
    → AreEhRecords is_aarch64 bases target [] 0 section records → ArePlaced target 0 (length section) (distinct (all_in_dwarf records))
placed-records is_aarch64 bases target section records are =
    let same : 0 + length section ≡ length section = omega arith in
    distinct-placed target 0 (length section) [] (all_in_dwarf records) (subst (λ n. ArePlaced target 0 n (all_in_dwarf records)) same
    (placed-after is_aarch64 bases target [] 0 section records are))
