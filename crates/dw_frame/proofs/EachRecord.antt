-- A record is read exactly if the next bytes encode it.
use Rattle.std.proofs.Common.{◌≡◌, ℕ, ◌+◌, ◌<◌, ◌≤◌, ◌↔◌, List, [], ◌∷◌, ◌++◌, length, Result, Ok, Err, refl, sym, ap, subst, ◌∙◌}
use Rattle.std.proofs.Common.{append_assoc, arith}
use Rattle.std.proofs.lemmas.List.{length-append, length-drop}
use Rattle.dw_bytes.specs.declared.target.Target.{Target}
use Rattle.dw_bytes.specs.declared.target.Order.{Order}
use Rattle.dw_bytes.specs.declared.target.Format.{Format}
use Rattle.dw_bytes.specs.declared.target.Format.TheVariants.{Dwarf32, Dwarf64}
use Rattle.dw_bytes.specs.declared.fault.Fault.{Fault}
use Rattle.dw_bytes.specs.Encoding.{InitialLength, InitialLengthPair}
use Rattle.dw_bytes.specs.Reading.{ReadPosition, Next, IsExact, ◌>>=◌, section_from}
use Rattle.dw_bytes.specs.Bodies.{framed_at, IsFramed}
use Rattle.dw_bytes.proofs.Readers.{bind-ok, ok-is, same-reading, leaves-suffix}
use Rattle.dw_bytes.proofs.Bodies.{framed-found, framed-only}
use Rattle.dw_bytes.proofs.Sequences.{ReadsEach, Forward, forward, goes-on, stops, ends, all-read, sequence-exact}
use Rattle.dw_frame.specs.Records.{Record}
use Rattle.dw_frame.specs.Sections.{Header, IsHeader, IsRecord, AreRecords, record_from, header_at, record_at, records_from, records_of}
use Rattle.dw_frame.specs.Bounds.{IsAfter}
use Rattle.dw_frame.proofs.Headers.{header-exact}

-- ---- a record

abbrev finish : Record × ReadPosition → Result (Record × ReadPosition) Fault
finish x = Ok x

record-same : (r : ReadPosition) (x y : Record) (a b : ReadPosition) → finish (x, a) ≡ finish (y, b)
    → Next (IsRecord r.target r.position) r x a → Next (IsRecord r.target r.position) r y b
record-same r x y a b is h =
    let same : (x, a) ≡ (y, b) = ok-is {A = Record} (x, a) (y, b) is in
    subst (λ (p : Record × ReadPosition). Next (IsRecord r.target r.position) r p.0 p.1) same h

record-parts : (r body program after : ReadPosition) (format : Format) (h : Header) → IsFramed r format body after
    → header_at r.target format body ≡ Ok (h, program)
    → Next (IsRecord r.target r.position) r (record_from r.position format body.position h program) after
record-parts r body program after format h frame read =
    let header = (header-exact r.target format body frame.body_target).found h program read in
    let begins : program.position ≡ r.position + length frame.front + length header.bytes =
    omega (arith, header.position, frame.body_position) in
    let here : ReadPosition = record {
      target = r.target;
      position = r.position + length frame.front + length header.bytes;
      rest = program.rest;
    } in
    let program_is : program ≡ here = same-reading program here (header.target ∙ frame.body_target) begins refl in
    record {
      bytes = frame.front ++ body.rest;
      encoded = record {
        format = format;
        header = h;
        front = frame.front;
        fields = header.bytes;
        program = program.rest;
        parts = ap (λ (t : List ℕ). frame.front ++ t) header.parts;
        length_is = subst (λ (t : List ℕ). InitialLengthPair r.target.order frame.front (format, length t)) header.parts frame.length_is;
        header_is = subst (λ p. IsHeader r.target format p header.bytes h) frame.body_position header.encoded;
        record_is = ap (λ n. record_from r.position format n h program) frame.body_position
            ∙ ap (λ (p : ReadPosition). record_from r.position format (r.position + length frame.front) h p) program_is;
      };
      parts = frame.parts ∙ sym (append_assoc frame.front body.rest after.rest);
      position = omega (arith, frame.position, frame.body_position, length-append frame.front body.rest);
      target = frame.target;
    }

pub record-found : (r : ReadPosition) (x : Record) (after : ReadPosition) → record_at r ≡ Ok (x, after)
    → Next (IsRecord r.target r.position) r x after
unfolding record_at
record-found r x after is =
    let a = bind-ok (framed_at r) (λ f. header_at r.target f.0.0 f.0.1 >>= λ h. finish
    (record_from r.position f.0.0 f.0.1.position h.0 h.1, f.1)) (x, after) is in
    let b = bind-ok (header_at r.target a.0.0.0 a.0.0.1) (λ h. finish (record_from r.position a.0.0.0 a.0.0.1.position h.0 h.1, a.0.1))
    (x, after) a.2 in
    let frame = framed-found r a.0.0.0 a.0.0.1 a.0.1 a.1 in
    record-same r (record_from r.position a.0.0.0 a.0.0.1.position b.0.0 b.0.1) x a.0.1 after b.2
    (record-parts r a.0.0.1 b.0.1 a.0.1 a.0.0.0 b.0.0 frame b.1)

pub record-only : (r : ReadPosition) (x : Record) (after : ReadPosition) → Next (IsRecord r.target r.position) r x after
    → record_at r ≡ Ok (x, after)
unfolding record_at
record-only r x after next =
    let s = next.encoded in
    let body : ReadPosition = record { target = r.target; position = r.position + length s.front; rest = s.fields ++ s.program } in
    let program : ReadPosition = record { target = r.target; position = r.position + length s.front + length s.fields; rest = s.program } in
    let one = framed-only r s.format body after (record {
      front = s.front;
      length_is = s.length_is;
      parts = next.parts ∙ ap (λ (t : List ℕ). t ++ after.rest) s.parts ∙ append_assoc s.front (s.fields ++ s.program) after.rest;
      body_position = refl;
      body_target = refl;
      position = omega (arith, next.position, ap length s.parts, length-append s.front (s.fields ++ s.program));
      target = next.target;
    }) in
    let two = (header-exact r.target s.format body refl).only s.header program
    (record { bytes = s.fields; encoded = s.header_is; parts = refl; position = refl; target = refl }) in
    rw (one, two) (ap (λ (y : Record). finish (y, after)) (sym s.record_is))

-- the encoding of a length isn't empty
pub some-length : (order : Order) (bytes : List ℕ) (format : Format) (v : ℕ) → InitialLength order bytes format v → 0 < length bytes
some-length order bytes Dwarf32 v h = omega (arith, h.0.count)
some-length order bytes Dwarf64 v (mark, rest, parts, first, second) = omega (arith, first.count, ap length parts, length-append mark rest)

pub some-bytes : (target : Target) (at : ℕ) (bytes : List ℕ) (x : Record) → IsRecord target at bytes x → 0 < length bytes
some-bytes target at bytes x s =
    let some = some-length target.order s.front s.format (length (s.fields ++ s.program)) s.length_is in
    omega (arith, some, ap length s.parts, length-append s.front (s.fields ++ s.program))

pub each-record : (target : Target) → ReadsEach target record_at (IsRecord target)
each-record target = record {
  exact = λ r same.
      let own : IsExact record_at (IsRecord r.target r.position) r = record { found = record-found r; only = record-only r } in
      subst (λ (t : Target). IsExact record_at (IsRecord t r.position) r) same own;
  some = some-bytes target;
}

pub records-forward : Forward record_at
records-forward = forward record_at IsRecord each-record

-- ---- laws

pub record-exact : (r : ReadPosition) → IsExact record_at (IsRecord r.target r.position) r
record-exact r = (each-record r.target).exact r refl

pub sections-are-records : (target : Target) (section : List ℕ) (records : List Record)
    → (records_of target section ≡ all-read records) ↔ AreRecords target 0 section records
unfolding records_from
sections-are-records target section records = sequence-exact target record_at (IsRecord target) (each-record target)
    (section_from target section 0) records refl

-- ---- reading a section from an offset on

pub at-end : (target : Target) (section : List ℕ) (at : ℕ) → length section ≤ at → records_from target section at ≡ []
unfolding records_from
at-end target section at h = ends record_at (section_from target section at) (omega (arith, length-drop at section))

pub at-fault : (target : Target) (section : List ℕ) (at : ℕ) (fault : Fault) → at < length section
    → record_at (section_from target section at) ≡ Err fault → records_from target section at ≡ Err fault ∷ []
unfolding records_from
at-fault target section at fault h is = stops record_at (section_from target section at) fault (omega (arith, length-drop at section)) is

pub at-record : (target : Target) (section : List ℕ) (at next : ℕ) (x : Record)
    → record_at (section_from target section at) ≡ Ok (x, section_from target section next)
    → records_from target section at ≡ Ok x ∷ records_from target section next
unfolding records_from
at-record target section at next x is = goes-on record_at records-forward (section_from target section at) x
    (section_from target section next) is

pub record-leaves : (target : Target) (section : List ℕ) (at : ℕ) (x : Record) (after : ReadPosition) → at ≤ length section
    → record_at (section_from target section at) ≡ Ok (x, after) → IsAfter target section at after
record-leaves target section at x after inside is =
    let next = record-found (section_from target section at) x after is in
    let some = some-bytes target at next.bytes x next.encoded in
    record {
      later = omega (arith, next.position, some);
      inside = omega (arith, next.position, ap length next.parts, length-append next.bytes after.rest, length-drop at section);
      left = leaves-suffix target record_at (IsRecord target) (each-record target).exact section at x after inside is;
    }
