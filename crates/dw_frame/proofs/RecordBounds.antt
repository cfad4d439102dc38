-- A record and its program lie inside their section, and a fault is reported inside the section or
-- at its end.
use Rattle.std.proofs.Common.{◌≡◌, ℕ, ◌+◌, ◌<◌, ◌≤◌, Bool, true, false, cond, List, [], ◌∷◌, ◌++◌, length, Result, Ok, Err, refl, sym, ap}
use Rattle.std.proofs.Common.{subst, ◌∙◌, arith, inl, inr}
use Rattle.std.specs.Prelude.{Contains, ◌==◌}
use Rattle.std.specs.List.{AllByRecursion}
use Rattle.std.proofs.lemmas.Bool.{leb-true}
use Rattle.std.proofs.lemmas.List.{length-append, length-drop}
use Rattle.dw_bytes.specs.declared.target.Target.{Target}
use Rattle.dw_bytes.specs.declared.target.Format.{Format}
use Rattle.dw_bytes.specs.declared.target.Format.TheVariants.{Dwarf32, Dwarf64}
use Rattle.dw_bytes.specs.declared.fault.Fault.{Fault}
use Rattle.dw_bytes.specs.declared.fault.FaultKind.TheVariants.{Version, AddressSize, SegmentSize}
use Rattle.dw_bytes.specs.declared.fault.FaultKind.TheVariants.{RegisterNumber, RangePastTop}
use Rattle.dw_bytes.specs.Encoding.{bytes_of_address, bytes_of_offset}
use Rattle.dw_bytes.specs.Reading.{ReadPosition, ◌>>=◌, section_from}
use Rattle.dw_bytes.specs.Bodies.{framed_at}
use Rattle.dw_bytes.specs.Operands.{fixed, unsigned}
use Rattle.dw_bytes.specs.Fields.{made, field, byte, Encodes}
use Rattle.dw_bytes.proofs.Bounds.{Stays, AlwaysStays, end-of, each-along}
use Rattle.dw_bytes.proofs.FieldsOf.{passed, fields-stay}
use Rattle.dw_bytes.proofs.Bodies.{bind-err, not-err, framed-found, framed-refused}
use Rattle.dw_frame.specs.Records.{is_version, Record}
use Rattle.dw_frame.specs.Sections.{Header, cie_header, fde_header, cie_id, top_of, ends_by, is_register, column_fault, factors}
use Rattle.dw_frame.specs.Sections.{cie_fields, fde_fields}
use Rattle.dw_frame.specs.Sections.{header_fields, header_at, IsHeader, record_from, IsRecord, AreRecords, record_at, records_from}
use Rattle.dw_frame.specs.Sections.{records_of, cie_among}
use Rattle.dw_frame.specs.Bounds.{IsSoundRecord, IsSound, offset_of, Ascends}
use Rattle.dw_frame.proofs.CieAmong.{cie-fault}
use Rattle.dw_frame.proofs.EachRecord.{record-found, some-bytes, some-length}

-- ---- where faults are reported

header-stays : (from : ℕ) (target : Target) (format : Format) → AlwaysStays from (header_at target format)
unfolding header_at
header-stays from target format r h = fields-stay from (header_fields target format) r h

pub record-refused : (r : ReadPosition) (fault : Fault) → record_at r ≡ Err fault → fault.at ≤ end-of r
unfolding record_at
record-refused r fault is =
    elim (bind-err (framed_at r) (λ f. header_at r.target f.0.0 f.0.1 >>= λ h. Ok
    (record_from r.position f.0.0 f.0.1.position h.0 h.1, f.1)) fault is) [
      | inl e ↦ framed-refused r fault e
      | inr w ↦
          let format = w.0.0.0 in
          let body = w.0.0.1 in
          let after = w.0.1 in
          let frame = framed-found r format body after w.1 in
          let inside : end-of body ≤ end-of r = omega (
            arith,
            frame.body_position,
            ap length frame.parts,
            length-append frame.front (body.rest ++ after.rest),
            length-append body.rest after.rest,
          ) in
          elim (bind-err (header_at r.target format body)
          (λ h. Ok (record_from r.position format body.position h.0 h.1, after)) fault w.2) [
            | inl e ↦ let stays = subst (Stays {X = Header} body.position body) e
                (header-stays body.position r.target format body (omega arith)) in omega (arith, stays.1, inside)
            | inr k ↦ absurd (not-err k.2)
          ]
    ]

-- ---- headers

abbrev InRange : Target → Header → Type 0
InRange target (cie_header h) = (is_version h.version ≡ true) × (h.return_address_register ≤ 65535)
InRange target (fde_header h) = h.initial_location + h.address_range ≤ top_of target

column-range : (target : Target) (at : ℕ) (is_byte : Bool) (make : ℕ → Header) (bytes : List ℕ) (h : Header)
    → Encodes target (cond is_byte (field (fixed 1) column_fault (λ n. made (make n)))
    (field unsigned column_fault (λ n. made (make n)))) at bytes h
    → (n : ℕ) × (n ≤ 65535) × (h ≡ make n)
column-range target at true make bytes h s = (s.0, leb-true s.0 65535 (passed (is_register s.0) RegisterNumber s.5), s.6.1)
column-range target at false make bytes h s = (s.0, leb-true s.0 65535 (passed (is_register s.0) RegisterNumber s.5), s.6.1)

factors-range : (target : Target) (version at : ℕ) (bytes : List ℕ) (h : Header) → is_version version ≡ true
    → Encodes target (factors cie_header version) at bytes h → InRange target h
factors-range target version at bytes h known s =
    let make : ℕ → Header = λ n. cie_header
    (record { version = version; code_alignment_factor = s.0; data_alignment_factor = s.6.0; return_address_register = n }) in
    let column = column-range target _ (version == 1) make s.6.2 h s.6.6 in
    subst (InRange target) (sym column.2) (known, column.1)

past-range : (target : Target) (version at : ℕ) (has_sizes : Bool) (bytes : List ℕ) (h : Header) → is_version version ≡ true
    → Encodes target (cond has_sizes
    (byte AddressSize (bytes_of_address target.address_size) (byte SegmentSize 0 (factors cie_header version))) (factors cie_header version)) at bytes h
    → InRange target h
past-range target version at true bytes h known s = factors-range target version _ s.6.2 h known s.6.6
past-range target version at false bytes h known s = factors-range target version at bytes h known s

from-id-range : (target : Target) (id at : ℕ) (is_cie : Bool) (bytes : List ℕ) (h : Header)
    → Encodes target (cond is_cie (cie_fields target) (fde_fields target id)) at bytes h → InRange target h
from-id-range target id at true bytes h s =
    past-range target s.0 _ (s.0 == 4) s.6.2 h (passed (is_version s.0) Version s.5) s.6.6
from-id-range target id at false bytes h s =
    let last = s.6 in
    subst (InRange target) (sym last.6.1) (leb-true (s.0 + last.0) (top_of target)
    (passed (ends_by (top_of target) s.0 last.0) RangePastTop last.5))

some-offset : (format : Format) → 0 < bytes_of_offset format
some-offset Dwarf32 = omega arith
some-offset Dwarf64 = omega arith

some-fields : (target : Target) (format : Format) (at : ℕ) (bytes : List ℕ) (h : Header) → IsHeader target format at bytes h
    → 0 < length bytes
some-fields target format at bytes h (id, x, y, parts, first, fine, second) =
    omega (arith, some-offset format, first.count, ap length parts, length-append x y)

-- ---- records

sound-from : (target : Target) (size at body : ℕ) (format : Format) (h : Header) (program : ReadPosition) → InRange target h → at < body
    → body < program.position → end-of program ≤ size → program.target ≡ target
    → IsSoundRecord target size (record_from at format body h program)
sound-from target size at body format (cie_header h) program range before past ends same =
    record {
      program = record { begins = omega arith; ends = ends; target_is = same };
      version = range.0;
      return_address_register = range.1;
    }
sound-from target size at body format (fde_header h) program range before past ends same =
    record {
      program = record { begins = omega arith; ends = ends; target_is = same };
      pointer_past = before;
      pointer_before = past;
      range = range;
    }

pub sound-record : (target : Target) (size at : ℕ) (bytes : List ℕ) (x : Record) → IsRecord target at bytes x → at + length bytes ≤ size
    → IsSoundRecord target size x
sound-record target size at bytes x s inside =
    let program : ReadPosition = record { target = target; position = at + length s.front + length s.fields; rest = s.program } in
    let range = from-id-range target s.header_is.0 (at + length s.front + length s.header_is.1)
    (s.header_is.0 == cie_id s.format) s.header_is.2 s.header s.header_is.6 in
    let front = some-length target.order s.front s.format (length (s.fields ++ s.program)) s.length_is in
    let fields = some-fields target s.format (at + length s.front) s.fields s.header s.header_is in
    let long = length-append s.front (s.fields ++ s.program) in
    let longer = length-append s.fields s.program in
    subst (IsSoundRecord target size) (sym s.record_is)
    (sound-from target size at (at + length s.front) s.format s.header program range (omega (arith, front)) (omega (arith, fields))
    (omega (arith, inside, ap length s.parts, long, longer)) refl)

-- r is a position in a section of this size, and has this target
pub record IsOn (target : Target) (size : ℕ) (r : ReadPosition) : Type 0 where
  pub same_target : r.target ≡ target
  pub same_end : end-of r ≡ size

pub entries-sound : (target : Target) (section : List ℕ) (item : Result Record Fault) → Contains (records_of target section) item
    → IsSound target (length section) item
unfolding records_from
entries-sound target section item h =
    each-along record_at (IsOn target (length section)) (IsSound target (length section))
    (λ r x after on is.
    let next = record-found r x after is in
    let long : length r.rest ≡ length next.bytes + length after.rest = ap length next.parts ∙ length-append next.bytes after.rest in
    let encoded : IsRecord target r.position next.bytes x =
    subst (λ (t : Target). IsRecord t r.position next.bytes x) on.same_target next.encoded in (
      sound-record target (length section) r.position next.bytes x encoded (omega (arith, long, on.same_end)),
      record { same_target = next.target ∙ on.same_target; same_end = omega (arith, next.position, long, on.same_end) },
    ))
    (λ r fault on is. let stands = record-refused r fault is in omega (arith, stands, on.same_end))
    (section_from target section 0) item (record { same_target = refl; same_end = omega (arith, length-drop 0 section) }) h

-- the fault that a search for a CIE gives is inside the section or at its end
pub cie-inside : (target : Target) (section : List ℕ) (offset : ℕ) (fault : Fault)
    → cie_among offset (records_of target section) ≡ Err fault → fault.at ≤ length section
cie-inside target section offset fault is = entries-sound target section (Err fault) (cie-fault offset (records_of target section) fault is)

pub ruleset cie_laws = (cie-inside)

-- ---- the order of records

from-offset : (at body : ℕ) (format : Format) (h : Header) (program : ReadPosition) → offset_of (record_from at format body h program) ≡ at
from-offset at body format (cie_header h) program = refl
from-offset at body format (fde_header h) program = refl

pub record-offset : (target : Target) (at : ℕ) (bytes : List ℕ) (x : Record) → IsRecord target at bytes x → offset_of x ≡ at
record-offset target at bytes x s = ap offset_of s.record_is ∙ from-offset at (at + length s.front) s.format s.header
    (record { target = target; position = at + length s.front + length s.fields; rest = s.program })

all-past : (target : Target) (n at : ℕ) (bytes : List ℕ) (records : List Record) → n < at → AreRecords target at bytes records
    → AllByRecursion (λ x. n < offset_of x) records
all-past target n at bytes [] lt are = tt
all-past target n at bytes (x ∷ records) lt (first, rest, parts, record_is, others) =
    let offset = record-offset target at first x record_is in
    (omega (arith, offset), all-past target n (at + length first) rest records (omega arith) others)

pub records-ascend : (target : Target) (at : ℕ) (bytes : List ℕ) (records : List Record) → AreRecords target at bytes records
    → Ascends offset_of records
records-ascend target at bytes [] are = tt
records-ascend target at bytes (x ∷ records) (first, rest, parts, record_is, others) =
    let some = some-bytes target at first x record_is in
    let offset = record-offset target at first x record_is in (
      all-past target (offset_of x) (at + length first) rest records (omega (arith, some, offset)) others,
      records-ascend target (at + length first) rest records others,
    )
