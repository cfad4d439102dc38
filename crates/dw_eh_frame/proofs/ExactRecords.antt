-- The bytes of a section are the encodings of records exactly if the section is read as these
-- records without a fault.
use Rattle.std.proofs.Common.{◌≡◌, ℕ, ◌+◌, ◌<◌, ◌≤◌, ◌↔◌, Bool, List, [], ◌∷◌, ◌++◌, length, drop, map, Option, Some, None, Result, Ok, Err}
use Rattle.std.proofs.Common.{refl, sym, ap, subst, ◌∙◌, append_assoc, arith, inl, inr}
use Rattle.std.specs.Prelude.{◌⊎◌}
use Rattle.std.specs.Option.{option_or}
use Rattle.std.proofs.Math.Seq.{drop-append_seam}
use Rattle.std.proofs.lemmas.List.{length-append, length-drop, drop-drop}
use Rattle.std.proofs.lemmas.List.Elements.{Contains-push_cases}
use Rattle.std.proofs.lemmas.Bool.{cases_lt}
use Rattle.dw_bytes.specs.declared.target.Target.{Target}
use Rattle.dw_bytes.specs.declared.fault.Fault.{Fault}
use Rattle.dw_bytes.specs.Reading.{ReadPosition, Next, section_from}
use Rattle.dw_bytes.specs.Sequence.{sequence_of}
use Rattle.dw_bytes.proofs.Readers.{same-reading}
use Rattle.dw_bytes.proofs.Bodies.{framed-found, framed-only}
use Rattle.dw_bytes.proofs.Sequences.{Forward, goes-on, stops, ends}
use Rattle.dw_frame.proofs.EachRecord.{some-length}
use Rattle.dw_eh_frame.specs.declared.pointer.Bases.{Bases}
use Rattle.dw_eh_frame.specs.Records.{EhRecord, eh_cie, eh_cie_at, eh_body_at, eh_record_at, eh_records_from, eh_records_of}
use Rattle.dw_eh_frame.specs.Records.{earlier_cie_fault, reading_fault_after, eh_reading_fault}
use Rattle.dw_eh_frame.specs.Encoding.{program_at, IsEhRecord, AreEhRecords}
use Rattle.dw_eh_frame.proofs.ExactCases.{cie-offset, record-parts, record-is, cie-at-is}
use Rattle.dw_eh_frame.proofs.ExactBodies.{AllRead, body-found, body-only, no-fault}

abbrev fine : {A : Type 0} → A → Result A Fault
fine a = Ok a

-- ---- a record

record-found : (is_aarch64 : Bool) (bases : Bases) (target : Target) (section : List ℕ) (before : List EhRecord) (at : ℕ) (x : EhRecord)
    (after : ReadPosition) → AllRead is_aarch64 target section before
    → eh_record_at is_aarch64 bases section (section_from target section at) ≡ Ok (x, after) → earlier_cie_fault before x ≡ None
    → Next (IsEhRecord is_aarch64 bases target before at) (section_from target section at) x after
record-found is_aarch64 bases target section before at x after all is no_fault =
    let (format, body, frame_is, read) = record-parts is_aarch64 bases section (section_from target section at) x after is in
    let frame = framed-found (section_from target section at) format body after frame_is in
    let body_is : body ≡ program_at target (at + length frame.front) body.rest =
    same-reading body (program_at target (at + length frame.front) body.rest) frame.body_target frame.body_position refl in
    let there : eh_body_at is_aarch64 bases section at format (program_at target (at + length frame.front) body.rest) ≡ fine x =
    ap (λ (b : ReadPosition). eh_body_at is_aarch64 bases section at format b) (sym body_is) ∙ read in
    record {
      bytes = frame.front ++ body.rest;
      encoded = record {
        format = format;
        front = frame.front;
        body = body.rest;
        parts = refl;
        length_is = frame.length_is;
        body_is = body-found is_aarch64 bases target section before at format (at + length frame.front) body.rest x all there no_fault;
      };
      parts = frame.parts ∙ sym (append_assoc frame.front body.rest after.rest);
      position = omega (arith, frame.position, frame.body_position, length-append frame.front body.rest);
      target = frame.target;
    }

pub record-only : (is_aarch64 : Bool) (bases : Bases) (target : Target) (section : List ℕ) (before : List EhRecord) (at : ℕ) (x : EhRecord)
    (after : ReadPosition) → AllRead is_aarch64 target section before
    → Next (IsEhRecord is_aarch64 bases target before at) (section_from target section at) x after
    → eh_record_at is_aarch64 bases section (section_from target section at) ≡ Ok (x, after)
record-only is_aarch64 bases target section before at x after all next =
    let s = next.encoded in
    let r = section_from target section at in
    let body = program_at target (at + length s.front) s.body in
    let frame = framed-only r s.format body after (record {
      front = s.front;
      length_is = s.length_is;
      parts = next.parts ∙ ap (λ (t : List ℕ). t ++ after.rest) s.parts ∙ append_assoc s.front s.body after.rest;
      body_position = refl;
      body_target = refl;
      position = omega (arith, next.position, ap length s.parts, length-append s.front s.body);
      target = next.target;
    }) in
    record-is is_aarch64 bases section r x s.format body after frame
    (body-only is_aarch64 bases target section before at s.format (at + length s.front) s.body x all s.body_is)

record-has-no-fault : (is_aarch64 : Bool) (bases : Bases) (target : Target) (before : List EhRecord) (at : ℕ) (bytes : List ℕ)
    (x : EhRecord)
    → IsEhRecord is_aarch64 bases target before at bytes x → earlier_cie_fault before x ≡ None
record-has-no-fault is_aarch64 bases target before at bytes x s =
    no-fault is_aarch64 bases target before at s.format (at + length s.front) s.body x s.body_is

-- each record that is read takes at least one byte
pub records-forward : (is_aarch64 : Bool) (bases : Bases) (section : List ℕ) → Forward (eh_record_at is_aarch64 bases section)
records-forward is_aarch64 bases section r x after is =
    let (format, body, frame_is, read) = record-parts is_aarch64 bases section r x after is in
    let frame = framed-found r format body after frame_is in
    let some = some-length r.target.order frame.front format (length body.rest) frame.length_is in
    omega (arith, some, ap length frame.parts, length-append frame.front (body.rest ++ after.rest), length-append body.rest after.rest)

-- the bytes that are left after the first of a section's
pub left : (section first rest : List ℕ) (at : ℕ) → drop at section ≡ first ++ rest → rest ≡ drop (at + length first) section
left section first rest at parts =
    sym (drop-append_seam first rest) ∙ (ap (drop (length first)) (sym parts) ∙ drop-drop (length first) at section)

-- after a record what is left is the section from a later offset on
record-leaves : (is_aarch64 : Bool) (bases : Bases) (target : Target) (section : List ℕ) (before : List EhRecord) (at : ℕ) (x : EhRecord)
    (after : ReadPosition) (next : Next (IsEhRecord is_aarch64 bases target before at) (section_from target section at) x after)
    → after ≡ section_from target section (at + length next.bytes)
record-leaves is_aarch64 bases target section before at x after next =
    same-reading after (section_from target section (at + length next.bytes)) next.target next.position
    (left section next.bytes after.rest at next.parts)

-- one more CIE is read at its offset too
pub read-more : (is_aarch64 : Bool) (bases : Bases) (target : Target) (section : List ℕ) (before : List EhRecord) (at : ℕ) (x : EhRecord)
    (after : ReadPosition) → AllRead is_aarch64 target section before
    → eh_record_at is_aarch64 bases section (section_from target section at) ≡ Ok (x, after)
    → AllRead is_aarch64 target section (before ++ x ∷ [])
read-more is_aarch64 bases target section before at x after all is c among =
    elim (Contains-push_cases before x (eh_cie c) among) [
      | inl w ↦ all c w
      | inr same ↦
          let here : eh_record_at is_aarch64 bases section (section_from target section at) ≡ fine {A = EhRecord × ReadPosition}
          (eh_cie c, after) =
          is ∙ ap (λ (y : EhRecord). fine {A = EhRecord × ReadPosition} (y, after)) same in
          let found = cie-at-is is_aarch64 bases target section at c after here in
          ap (λ n. eh_cie_at is_aarch64 target section n) (cie-offset is_aarch64 target section at c found) ∙ found
    ]

-- ---- a section

abbrev all-of : List EhRecord → List (Result EhRecord Fault)
all-of records = map Ok records

-- reading goes on after a record, and stops at a fault or at the section's end
pub next-is : (is_aarch64 : Bool) (bases : Bases) (target : Target) (section : List ℕ) (at next : ℕ) (x : EhRecord)
    → eh_record_at is_aarch64 bases section (section_from target section at) ≡ Ok (x, section_from target section next)
    → eh_records_from is_aarch64 bases target section at ≡ Ok x ∷ eh_records_from is_aarch64 bases target section next
unfolding eh_records_from
next-is is_aarch64 bases target section at next x is = goes-on (eh_record_at is_aarch64 bases section)
    (records-forward is_aarch64 bases section)
    (section_from target section at) x (section_from target section next) is

pub nothing-left : (is_aarch64 : Bool) (bases : Bases) (target : Target) (section : List ℕ) (at : ℕ) → length (drop at section) ≡ 0
    → eh_records_from is_aarch64 bases target section at ≡ []
unfolding eh_records_from
nothing-left is_aarch64 bases target section at none = ends (eh_record_at is_aarch64 bases section) (section_from target section at) none

pub stops-at : (is_aarch64 : Bool) (bases : Bases) (target : Target) (section : List ℕ) (at : ℕ) (fault : Fault)
    → 0 < length (drop at section)
    → eh_record_at is_aarch64 bases section (section_from target section at) ≡ Err fault
    → eh_records_from is_aarch64 bases target section at ≡ Err fault ∷ []
unfolding eh_records_from
stops-at is_aarch64 bases target section at fault some is = stops (eh_record_at is_aarch64 bases section)
    (section_from target section at) fault some is

goes-past : (is_aarch64 : Bool) (bases : Bases) (target : Target) (section : List ℕ) (at : ℕ) (x : EhRecord) (after : ReadPosition)
    → eh_record_at is_aarch64 bases section (section_from target section at) ≡ Ok (x, after)
    → eh_records_from is_aarch64 bases target section at ≡ Ok x ∷ sequence_of (eh_record_at is_aarch64 bases section) after
unfolding eh_records_from
goes-past is_aarch64 bases target section at x after is = goes-on (eh_record_at is_aarch64 bases section)
    (records-forward is_aarch64 bases section)
    (section_from target section at) x after is

from-after : (is_aarch64 : Bool) (bases : Bases) (target : Target) (section : List ℕ) (next : ℕ) (after : ReadPosition)
    → after ≡ section_from target section next
    → sequence_of (eh_record_at is_aarch64 bases section) after ≡ eh_records_from is_aarch64 bases target section next
unfolding eh_records_from
from-after is_aarch64 bases target section next after is = ap
    (λ (r : ReadPosition). sequence_of (eh_record_at is_aarch64 bases section) r) is

empty : (xs : List ℕ) → length xs ≡ 0 → xs ≡ []
empty [] h = refl
empty (x ∷ xs) h = absurd (omega arith)

outcome : {A : Type 0} (x : Result A Fault) → ((a : A) × (x ≡ Ok a)) ⊎ ((fault : Fault) × (x ≡ Err fault))
outcome (Ok a) = inl (a, refl)
outcome (Err fault) = inr (fault, refl)

both-none : (a b : Option Fault) → option_or a b ≡ None → (a ≡ None) × (b ≡ None)
both-none None b is = (refl, is)
both-none (Some fault) b is = absurd cc

abbrev ReadAs : Bool → Bases → Target → List ℕ → List EhRecord → ℕ → List EhRecord → Type 0
ReadAs is_aarch64 bases target section before at records = (eh_records_from is_aarch64 bases target section at ≡ all-of records)
    × (reading_fault_after before (all-of records) ≡ None)

section-only : (is_aarch64 : Bool) (bases : Bases) (target : Target) (section : List ℕ) (records before : List EhRecord) (at : ℕ)
    → AllRead is_aarch64 target section before → AreEhRecords is_aarch64 bases target before at (drop at section) records
    → ReadAs is_aarch64 bases target section before at records
section-only is_aarch64 bases target section [] before at all are =
    (nothing-left is_aarch64 bases target section at (ap length are), refl)
section-only is_aarch64 bases target section (x ∷ xs) before at all (first, rest, parts, is, others) =
    let next = at + length first in
    let rest_is : rest ≡ drop next section = left section first rest at parts in
    let read = record-only is_aarch64 bases target section before at x (section_from target section next) all
    (record {
      bytes = first;
      encoded = is;
      parts = parts ∙ ap (λ (t : List ℕ). first ++ t) rest_is;
      position = refl;
      target = refl;
    }) in
    let more = section-only is_aarch64 bases target section xs (before ++ x ∷ []) next
    (read-more is_aarch64 bases target section before at x (section_from target section next) all read)
    (subst (λ (t : List ℕ). AreEhRecords is_aarch64 bases target (before ++ x ∷ []) next t xs) rest_is others) in (
      next-is is_aarch64 bases target section at next x read ∙ ap (λ (items : List (Result EhRecord Fault)). Ok x ∷ items) more.0,
      ap (λ (o : Option Fault). option_or o (reading_fault_after (before ++ x ∷ []) (all-of xs)))
          (record-has-no-fault is_aarch64 bases target before at first x is) ∙ more.1,
    )

abbrev items : Result EhRecord Fault → List (Result EhRecord Fault) → List (Result EhRecord Fault)
items x xs = x ∷ xs

section-found : (is_aarch64 : Bool) (bases : Bases) (target : Target) (section : List ℕ) (records before : List EhRecord) (at : ℕ)
    → AllRead is_aarch64 target section before → ReadAs is_aarch64 bases target section before at records
    → AreEhRecords is_aarch64 bases target before at (drop at section) records
section-found is_aarch64 bases target section [] before at all (is, no_fault) =
    elim (cases_lt 0 (length (drop at section))) [
      | inr none ↦ empty (drop at section) (omega arith)
      | inl some ↦ elim (outcome (eh_record_at is_aarch64 bases section (section_from target section at))) [
        | inl (found, read) ↦
            let no : items (Ok found.0) (sequence_of (eh_record_at is_aarch64 bases section) found.1) ≡ [] =
            sym (goes-past is_aarch64 bases target section at found.0 found.1 read) ∙ is in
            absurd cc
        | inr (fault, read) ↦
            let no : items (Err fault) [] ≡ [] = sym (stops-at is_aarch64 bases target section at fault some read) ∙ is in
            absurd cc
      ]
    ]
section-found is_aarch64 bases target section (x ∷ xs) before at all (is, no_fault) =
    elim (cases_lt 0 (length (drop at section))) [
      | inr none ↦
          let no : [] ≡ items (Ok x) (all-of xs) = sym (nothing-left is_aarch64 bases target section at (omega arith)) ∙ is in
          absurd cc
      | inl some ↦ elim (outcome (eh_record_at is_aarch64 bases section (section_from target section at))) [
        | inl (found, read) ↦
            let same : items (Ok found.0) (sequence_of (eh_record_at is_aarch64 bases section) found.1) ≡ items (Ok x) (all-of xs) =
            sym (goes-past is_aarch64 bases target section at found.0 found.1 read) ∙ is in
            let x_is : found.0 ≡ x = cc in
            let xs_are : sequence_of (eh_record_at is_aarch64 bases section) found.1 ≡ all-of xs = cc in
            let here : eh_record_at is_aarch64 bases section (section_from target section at) ≡ fine {A = EhRecord × ReadPosition}
            (x, found.1) =
            read ∙ ap (λ (y : EhRecord). fine {A = EhRecord × ReadPosition} (y, found.1)) x_is in
            let faults = both-none (earlier_cie_fault before x) (reading_fault_after (before ++ x ∷ []) (all-of xs)) no_fault in
            let next = record-found is_aarch64 bases target section before at x found.1 all here faults.0 in
            let after = record-leaves is_aarch64 bases target section before at x found.1 next in
            let others = section-found is_aarch64 bases target section xs (before ++ x ∷ []) (at + length next.bytes)
            (read-more is_aarch64 bases target section before at x found.1 all here)
            (sym (from-after is_aarch64 bases target section (at + length next.bytes) found.1 after) ∙ xs_are, faults.1) in
            let rest : found.1.rest ≡ drop (at + length next.bytes) section = ap (λ (r : ReadPosition). r.rest) after in (
              next.bytes,
              drop (at + length next.bytes) section,
              next.parts ∙ ap (λ (t : List ℕ). next.bytes ++ t) rest,
              next.encoded,
              others,
            )
        | inr (fault, read) ↦
            let no : items (Err fault) [] ≡ items (Ok x) (all-of xs) = sym (stops-at is_aarch64 bases target section at fault some read)
            ∙ is in
            absurd cc
      ]
    ]

-- ---- laws

pub at-end : (is_aarch64 : Bool) (bases : Bases) (target : Target) (section : List ℕ) (at : ℕ) → length section ≤ at
    → eh_records_from is_aarch64 bases target section at ≡ []
at-end is_aarch64 bases target section at past = nothing-left is_aarch64 bases target section at (omega (arith, length-drop at section))

pub at-fault : (is_aarch64 : Bool) (bases : Bases) (target : Target) (section : List ℕ) (at : ℕ) (fault : Fault) → at < length section
    → eh_record_at is_aarch64 bases section (section_from target section at) ≡ Err fault
    → eh_records_from is_aarch64 bases target section at ≡ Err fault ∷ []
at-fault is_aarch64 bases target section at fault inside is =
    stops-at is_aarch64 bases target section at fault (omega (arith, length-drop at section)) is

pub none-read : (is_aarch64 : Bool) (target : Target) (section : List ℕ) → AllRead is_aarch64 target section []
none-read is_aarch64 target section c (k, less, is) = absurd (omega arith)

pub sections-are-records : (is_aarch64 : Bool) (bases : Bases) (target : Target) (section : List ℕ) (records : List EhRecord)
    → AreEhRecords is_aarch64 bases target [] 0 section records
    ↔ ((eh_records_of is_aarch64 bases target section ≡ map Ok records) × (eh_reading_fault is_aarch64 bases target section ≡ None))
unfolding eh_reading_fault
sections-are-records is_aarch64 bases target section records = (
  (λ are.
      let read = section-only is_aarch64 bases target section records [] 0 (none-read is_aarch64 target section) are in
      (read.0, ap (λ (l : List (Result EhRecord Fault)). reading_fault_after [] l) read.0 ∙ read.1)),
  (λ is. section-found is_aarch64 bases target section records [] 0 (none-read is_aarch64 target section)
      (is.0, ap (λ (l : List (Result EhRecord Fault)). reading_fault_after [] l) (sym is.0) ∙ is.1)),
)

same-items : (a b : List EhRecord) → all-of a ≡ all-of b → a ≡ b
same-items [] [] is = refl
same-items [] (y ∷ b) is = absurd cc
same-items (x ∷ a) [] is = absurd cc
same-items (x ∷ a) (y ∷ b) is =
    let here : items (Ok x) (all-of a) ≡ items (Ok y) (all-of b) = is in
    let first : x ≡ y = cc in
    let others : all-of a ≡ all-of b = cc in
    let tail = same-items a b others in
    cc

-- the same bytes encode only one list of records
pub records-are-unambiguous : (is_aarch64 : Bool) (bases : Bases) (target : Target) (section : List ℕ) (a b : List EhRecord)
    → AreEhRecords is_aarch64 bases target [] 0 section a → AreEhRecords is_aarch64 bases target [] 0 section b → a ≡ b
records-are-unambiguous is_aarch64 bases target section a b first second =
    let one = ((sections-are-records is_aarch64 bases target section a).0 first).0 in
    let two = ((sections-are-records is_aarch64 bases target section b).0 second).0 in
    same-items a b (sym one ∙ two)
