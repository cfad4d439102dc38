-- The body of a record is read exactly if it encodes the record, where an FDE's CIE is one of the
-- records before it.
use Rattle.std.proofs.Common.{◌≡◌, ℕ, ◌+◌, ◌-◌, Bool, true, false, cond, eqb, List, [], ◌∷◌, ◌++◌, length, Some, None, Result, Ok, Contains}
use Rattle.std.proofs.Common.{refl, sym, ap, subst, ◌∙◌, arith, inl, inr}
use Rattle.std.specs.List.{list_any}
use Rattle.std.proofs.lemmas.Bool.{eqb-true, eqb-false, eq-eqb, ne_eqb}
use Rattle.std.proofs.lemmas.List.{length-append}
use Rattle.std.proofs.lemmas.List.Folds.{Any-from_list_any, list_any-from_Any}
use Rattle.dw_bytes.specs.declared.target.Target.{Target}
use Rattle.dw_bytes.specs.declared.target.Format.{Format}
use Rattle.dw_bytes.specs.declared.fault.Fault.{Fault}
use Rattle.dw_bytes.specs.Encoding.{Fixed}
use Rattle.dw_bytes.specs.Reading.{ReadPosition}
use Rattle.dw_bytes.proofs.Readers.{fixed-exact, same-reading}
use Rattle.dw_eh_frame.specs.declared.pointer.Bases.{Bases}
use Rattle.dw_eh_frame.specs.Records.{EhCie, EhFde, EhRecord, eh_cie, eh_fde, eh_nothing, eh_cie_with, eh_cie_at}
use Rattle.dw_eh_frame.specs.Records.{eh_fde_with, eh_body_at, begins_at, lost, earlier_cie_fault}
use Rattle.dw_eh_frame.specs.Encoding.{program_at, IsEhCieHead, IsEhFdeHead, IsEhCie, IsEhFde, IsEhBody}
use Rattle.dw_eh_frame.proofs.ExactPointers.{fde-head-exact}
use Rattle.dw_eh_frame.proofs.ExactHeads.{head-exact}
use Rattle.dw_eh_frame.proofs.ExactCases.{ReadCie, ReadFde, body-parts, nothing-is, cie-is, fde-is}
use Rattle.dw_eh_frame.proofs.ExactCases.{cie-from-parts, cie-from-is, cie-offset, cie-before-parts, cie-before-is, fde-from-parts}
use Rattle.dw_eh_frame.proofs.ExactCases.{fde-from-is}

-- each CIE among these records is what is read at its offset
abbrev pub AllRead : Bool → Target → List ℕ → List EhRecord → Type 0
AllRead is_aarch64 target section before = (c : EhCie) → Contains before (eh_cie c)
    → eh_cie_at is_aarch64 target section c.cie.offset ≡ Ok c

empty : (xs : List ℕ) → length xs ≡ 0 → xs ≡ []
empty [] h = refl
empty (x ∷ xs) h = absurd (omega arith)

-- ---- the CIE of an FDE among the records before it

abbrev fine : EhCie → Result EhCie Fault
fine c = Ok c

begun : (n : ℕ) (x : EhRecord) → begins_at n x ≡ true → (c : EhCie) × (x ≡ eh_cie c) × (c.cie.offset ≡ n)
begun n (eh_cie c) is = (c, refl, eqb-true c.cie.offset n is)
begun n (eh_fde e) is = absurd cc
begun n (eh_nothing at) is = absurd cc

if-lost : (test : Bool) (fault : Fault) → cond test None (Some fault) ≡ None → test ≡ true
if-lost true fault is = refl
if-lost false fault is = absurd cc

-- the CIE that an FDE finds is one of the records before the FDE
found-before : (is_aarch64 : Bool) (target : Target) (section : List ℕ) (before : List EhRecord) (cie : EhCie) (at : ℕ)
    → AllRead is_aarch64 target section before → eh_cie_at is_aarch64 target section at ≡ Ok cie
    → list_any (begins_at cie.cie.offset) before ≡ true → Contains before (eh_cie cie)
found-before is_aarch64 target section before cie at all is any =
    let (k, x, less, here, begins) = Any-from_list_any (begins_at cie.cie.offset) before any in
    let (c, is_cie, offset) = begun cie.cie.offset x begins in
    let among : Contains before (eh_cie c) = subst (λ (y : EhRecord). Contains before y) is_cie (k, less, here) in
    let place : c.cie.offset ≡ at = offset ∙ cie-offset is_aarch64 target section at cie is in
    let both : fine c ≡ fine cie = sym (all c among) ∙ (ap (λ n. eh_cie_at is_aarch64 target section n) place ∙ is) in
    let same : c ≡ cie = cc in
    subst (λ (y : EhCie). Contains before (eh_cie y)) same among

-- ---- a body that is read encodes the record

abbrev body-of : Target → ℕ → List ℕ → ReadPosition
body-of target place bytes = program_at target place bytes

cie-found : (is_aarch64 : Bool) (target : Target) (at : ℕ) (format : Format) (place : ℕ) (bytes : List ℕ) (x : EhRecord)
    → ReadCie is_aarch64 at format (body-of target place bytes) x → IsEhCie is_aarch64 target at format place bytes x
cie-found is_aarch64 target at format place bytes x read =
    let id = (fixed-exact target 4 (body-of target place bytes) refl).found 0 read.mid read.id_is in
    let (head, after, head_is, cie_is) = cie-from-parts is_aarch64 at format read.mid read.cie read.cie_is in
    let fields = (head-exact target read.mid id.target).found head after head_is in
    let begins : after.position ≡ place + length id.bytes + length fields.bytes = omega (arith, fields.position, id.position) in
    let program : after ≡ program_at target (place + length id.bytes + length fields.bytes) after.rest =
    same-reading after (program_at target (place + length id.bytes + length fields.bytes) after.rest) (fields.target
    ∙ id.target) begins refl in
    record {
      id = id.bytes;
      fields = fields.bytes;
      program = after.rest;
      head = head;
      parts = id.parts ∙ ap (λ (t : List ℕ). id.bytes ++ t) fields.parts;
      id_is = id.encoded;
      head_is = subst (λ n. IsEhCieHead target n fields.bytes head) id.position fields.encoded;
      record_is = read.record_is ∙ (ap (λ (c : EhCie). eh_cie c) cie_is
          ∙ ap (λ (p : ReadPosition). eh_cie (eh_cie_with is_aarch64 at format head p)) program);
    }

fde-found : (is_aarch64 : Bool) (bases : Bases) (target : Target) (section : List ℕ) (before : List EhRecord) (at : ℕ) (format : Format)
    (place : ℕ) (bytes : List ℕ) (x : EhRecord) → AllRead is_aarch64 target section before
    → ReadFde is_aarch64 bases section at format (body-of target place bytes) x → earlier_cie_fault before x ≡ None
    → IsEhFde bases target before at format place bytes x
fde-found is_aarch64 bases target section before at format place bytes x all read no_fault =
    let pointer = (fixed-exact target 4 (body-of target place bytes) refl).found read.back read.mid read.pointer_is in
    let (addresses, after, head_is, fde_is) = fde-from-parts bases at format place read.cie read.mid read.fde read.fde_is in
    let fields = (fde-head-exact target bases read.cie.augmentation read.mid pointer.target).found addresses after head_is in
    let (within, cie_at) = cie-before-parts is_aarch64 target section place read.back read.cie read.cie_is in
    let begins : after.position ≡ place + length pointer.bytes + length fields.bytes = omega (arith, fields.position, pointer.position) in
    let program : after ≡ program_at target (place + length pointer.bytes + length fields.bytes) after.rest =
    same-reading after (program_at target (place + length pointer.bytes + length fields.bytes) after.rest) (fields.target
    ∙ pointer.target) begins refl in
    let whole : x ≡ eh_fde (eh_fde_with at format place read.cie addresses.0 addresses.1 after) =
    read.record_is ∙ ap (λ (e : EhFde). eh_fde e) fde_is in
    let fault : cond (list_any (begins_at read.cie.cie.offset) before) None
    (Some (lost (eh_fde_with at format place read.cie addresses.0 addresses.1 after))) ≡ None =
    ap (λ (y : EhRecord). earlier_cie_fault before y) (sym whole) ∙ no_fault in
    let any = if-lost (list_any (begins_at read.cie.cie.offset) before)
    (lost (eh_fde_with at format place read.cie addresses.0 addresses.1 after)) fault in
    let offset = cie-offset is_aarch64 target section (place - read.back) read.cie cie_at in
    record {
      pointer = pointer.bytes;
      fields = fields.bytes;
      program = after.rest;
      back = read.back;
      cie = read.cie;
      addresses = addresses;
      parts = pointer.parts ∙ ap (λ (t : List ℕ). pointer.bytes ++ t) fields.parts;
      pointer_is = pointer.encoded;
      no_id = eqb-false read.back 0 read.no_id;
      cie_is_before = found-before is_aarch64 target section before read.cie (place - read.back) all cie_at any;
      cie_begins = omega (arith, offset, within);
      fields_are = subst (λ n. IsEhFdeHead bases read.cie.augmentation target n fields.bytes addresses) pointer.position fields.encoded;
      record_is = whole ∙ ap (λ (p : ReadPosition). eh_fde (eh_fde_with at format place read.cie addresses.0 addresses.1 p)) program;
    }

pub body-found : (is_aarch64 : Bool) (bases : Bases) (target : Target) (section : List ℕ) (before : List EhRecord) (at : ℕ)
    (format : Format)
    (place : ℕ) (bytes : List ℕ) (x : EhRecord) → AllRead is_aarch64 target section before
    → eh_body_at is_aarch64 bases section at format (program_at target place bytes) ≡ Ok x → earlier_cie_fault before x ≡ None
    → IsEhBody is_aarch64 bases target before at format place bytes x
body-found is_aarch64 bases target section before at format place bytes x all read no_fault =
    elim (body-parts is_aarch64 bases section at format (body-of target place bytes) x read) [
      | inl w ↦ inl (record { nothing = empty bytes w.nothing; record_is = w.record_is })
      | inr (inl w) ↦ inr (inl (cie-found is_aarch64 target at format place bytes x w))
      | inr (inr w) ↦ inr (inr (fde-found is_aarch64 bases target section before at format place bytes x all w no_fault))
    ]

-- ---- a body that encodes a record is read as it

-- a body that begins with four bytes has some bytes
some-bytes : (target : Target) (n : ℕ) (first others bytes : List ℕ) → Fixed target.order 4 first n → bytes ≡ first ++ others
    → eqb (length bytes) 0 ≡ false
some-bytes target n first others bytes is parts = ne_eqb (length bytes) 0 (λ none.
    omega (arith, is.count, ap length parts, length-append first others))

cie-only : (is_aarch64 : Bool) (bases : Bases) (target : Target) (section : List ℕ) (at : ℕ) (format : Format) (place : ℕ)
    (bytes : List ℕ) (x : EhRecord) → IsEhCie is_aarch64 target at format place bytes x
    → eh_body_at is_aarch64 bases section at format (body-of target place bytes) ≡ Ok x
cie-only is_aarch64 bases target section at format place bytes x h =
    let mid = program_at target (place + length h.id) (h.fields ++ h.program) in
    let after = program_at target (place + length h.id + length h.fields) h.program in
    let id = (fixed-exact target 4 (body-of target place bytes) refl).only 0 mid
    (record { bytes = h.id; encoded = h.id_is; parts = h.parts; position = refl; target = refl }) in
    let head = (head-exact target mid refl).only h.head after
    (record { bytes = h.fields; encoded = h.head_is; parts = refl; position = refl; target = refl }) in
    cie-is is_aarch64 bases section at format (body-of target place bytes) mid (eh_cie_with is_aarch64 at format h.head after)
    (some-bytes target 0 h.id (h.fields ++ h.program) bytes h.id_is h.parts) id
    (cie-from-is is_aarch64 at format mid h.head after head)
    ∙ ap (λ (y : EhRecord). Ok y) (sym h.record_is)

fde-only : (is_aarch64 : Bool) (bases : Bases) (target : Target) (section : List ℕ) (before : List EhRecord) (at : ℕ) (format : Format)
    (place : ℕ) (bytes : List ℕ) (x : EhRecord) → AllRead is_aarch64 target section before
    → IsEhFde bases target before at format place bytes x
    → eh_body_at is_aarch64 bases section at format (body-of target place bytes) ≡ Ok x
fde-only is_aarch64 bases target section before at format place bytes x all h =
    let mid = program_at target (place + length h.pointer) (h.fields ++ h.program) in
    let after = program_at target (place + length h.pointer + length h.fields) h.program in
    let pointer = (fixed-exact target 4 (body-of target place bytes) refl).only h.back mid
    (record { bytes = h.pointer; encoded = h.pointer_is; parts = h.parts; position = refl; target = refl }) in
    let head = (fde-head-exact target bases h.cie.augmentation mid refl).only h.addresses after
    (record { bytes = h.fields; encoded = h.fields_are; parts = refl; position = refl; target = refl }) in
    let begins = h.cie_begins in
    let offset : h.cie.cie.offset ≡ place - h.back = omega (arith, begins) in
    let cie_at : eh_cie_at is_aarch64 target section (place - h.back) ≡ Ok h.cie =
    ap (λ n. eh_cie_at is_aarch64 target section n) (sym offset) ∙ all h.cie h.cie_is_before in
    fde-is is_aarch64 bases section at format (body-of target place bytes) h.back mid h.cie
    (eh_fde_with at format place h.cie h.addresses.0 h.addresses.1 after)
    (some-bytes target h.back h.pointer (h.fields ++ h.program) bytes h.pointer_is h.parts) pointer (ne_eqb h.back 0 h.no_id)
    (cie-before-is is_aarch64 target section place h.back h.cie (omega (arith, begins)) cie_at)
    (fde-from-is bases at format place h.cie mid h.addresses after head)
    ∙ ap (λ (y : EhRecord). Ok y) (sym h.record_is)

pub body-only : (is_aarch64 : Bool) (bases : Bases) (target : Target) (section : List ℕ) (before : List EhRecord) (at : ℕ) (format : Format)
    (place : ℕ) (bytes : List ℕ) (x : EhRecord) → AllRead is_aarch64 target section before
    → IsEhBody is_aarch64 bases target before at format place bytes x
    → eh_body_at is_aarch64 bases section at format (program_at target place bytes) ≡ Ok x
body-only is_aarch64 bases target section before at format place bytes x all is =
    elim is [
      | inl w ↦ nothing-is is_aarch64 bases section at format (body-of target place bytes) (ap length w.nothing)
          ∙ ap (λ (y : EhRecord). Ok y) (sym w.record_is)
      | inr (inl w) ↦ cie-only is_aarch64 bases target section at format place bytes x w
      | inr (inr w) ↦ fde-only is_aarch64 bases target section before at format place bytes x all w
    ]

-- an FDE whose CIE is one of the records before it has no fault
pub no-fault : (is_aarch64 : Bool) (bases : Bases) (target : Target) (before : List EhRecord) (at : ℕ) (format : Format) (place : ℕ)
    (bytes : List ℕ) (x : EhRecord) → IsEhBody is_aarch64 bases target before at format place bytes x → earlier_cie_fault before x ≡ None
no-fault is_aarch64 bases target before at format place bytes x is =
    elim is [
      | inl w ↦ ap (λ (y : EhRecord). earlier_cie_fault before y) w.record_is
      | inr (inl w) ↦ ap (λ (y : EhRecord). earlier_cie_fault before y) w.record_is
      | inr (inr w) ↦
          let (k, less, here) = w.cie_is_before in
          let after = program_at target (place + length w.pointer + length w.fields) w.program in
          let any : list_any (begins_at w.cie.cie.offset) before ≡ true = list_any-from_Any (begins_at w.cie.cie.offset) before
          (k, eh_cie w.cie, less, here, eq-eqb w.cie.cie.offset w.cie.cie.offset refl) in
          ap (λ (y : EhRecord). earlier_cie_fault before y) w.record_is
          ∙ ap (λ b. cond b None (Some (lost (eh_fde_with at format place w.cie w.addresses.0 w.addresses.1 after)))) any
    ]
