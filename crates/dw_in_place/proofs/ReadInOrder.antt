-- In a section of records one after another, each FDE is read at its offset, and its CIE is one of the
-- records before it.
use Rattle.std.proofs.Common.{◌≡◌, ℕ, Bool, zero, suc, ◌+◌, ◌≤◌, List, [], ◌∷◌, ◌++◌, length, drop, Contains, Result, Ok, refl, sym, ap, subst, ◌∙◌, arith, inl, inr, append_assoc}
use Rattle.std.proofs.lemmas.List.Elements.{Contains-push_cases, Contains-append_left}
use Rattle.dw_bytes.specs.declared.target.Target.{Target}
use Rattle.dw_bytes.specs.declared.fault.Fault.{Fault}
use Rattle.dw_bytes.specs.Reading.{ReadPosition, section_from}
use Rattle.dw_frame.specs.Bounds.{IsSoundCie}
use Rattle.dw_frame.specs.Records.{Cie}
use Rattle.dw_eh_frame.specs.declared.pointer.Bases.{Bases}
use Rattle.dw_eh_frame.specs.Records.{EhCie, EhFde, EhRecord, eh_cie, eh_fde, eh_nothing, eh_record_at}
use Rattle.dw_eh_frame.specs.Encoding.{IsEhRecord, AreEhRecords}
use Rattle.dw_eh_frame.specs.Views.{LiesAt}
use Rattle.dw_eh_frame.proofs.EncodedPlaces.{record-lies}
use Rattle.dw_eh_frame.proofs.ExactBodies.{AllRead}
use Rattle.dw_eh_frame.proofs.ExactRecords.{record-only, left, read-more, none-read}

abbrev pub read-as : EhRecord → ReadPosition → Result (EhRecord × ReadPosition) Fault
read-as x after = Ok (x, after)

-- An FDE is read at its offset, and its CIE is one of the records, and ends where the FDE begins, or
-- before it.
pub record ReadsFde (is_aarch64 : Bool) (bases : Bases) (target : Target) (section : List ℕ) (records : List EhRecord) (e : EhFde) : Type 0 where
  pub after : ReadPosition
  pub read : eh_record_at is_aarch64 bases section (section_from target section e.fde.offset) ≡ read-as (eh_fde e) after
  pub sound : IsSoundCie target e.fde.offset e.cie.cie
  pub among : Contains records (eh_cie e.cie)
  pub pointer : e.fde.cie_pointer ≡ e.cie.cie.offset

-- each CIE among the records ends by the offset `at`
abbrev EndBy : Target → List EhRecord → ℕ → Type 0
EndBy target records at = (c : EhCie) → Contains records (eh_cie c) → IsSoundCie target at c.cie

wider : (target : Target) (at next : ℕ) (c : Cie) → at ≤ next → IsSoundCie target at c → IsSoundCie target next c
wider target at next c le sound = record {
  program = record {
    begins = sound.program.begins;
    ends = omega (arith, le, sound.program.ends);
    target_is = sound.program.target_is;
  };
  version = sound.version;
  return_address_register = sound.return_address_register;
}

-- what holds of an FDE that begins at the offset `at`, after the records `before`
record BeginsAt (target : Target) (before : List EhRecord) (at : ℕ) (e : EhFde) : Type 0 where
  offset : e.fde.offset ≡ at
  among : Contains before (eh_cie e.cie)
  sound : IsSoundCie target at e.cie.cie
  pointer : e.fde.cie_pointer ≡ e.cie.cie.offset

abbrev fde-or : EhFde → EhRecord → EhFde
fde-or d (eh_fde e) = e
fde-or d (eh_cie c) = d
fde-or d (eh_nothing n) = d

begins-at : (is_aarch64 : Bool) (bases : Bases) (target : Target) (before : List EhRecord) (at : ℕ) (bytes : List ℕ) (x : EhRecord) (e : EhFde)
    → EndBy target before at → IsEhRecord is_aarch64 bases target before at bytes x → x ≡ eh_fde e → BeginsAt target before at e
begins-at is_aarch64 bases target before at bytes x e ends s is = elim s.body_is [
  | inl nothing ↦ let no : eh_nothing at ≡ eh_fde e = sym nothing.record_is ∙ is in absurd cc
  | inr (inl cie) ↦ let no = sym cie.record_is ∙ is in absurd cc
  | inr (inr w) ↦
      let same = ap (fde-or e) (sym w.record_is ∙ is) in
      subst (BeginsAt target before at) same
      (record { offset = refl; among = w.cie_is_before; sound = ends w.cie w.cie_is_before; pointer = refl })
]

ends-more : (is_aarch64 : Bool) (bases : Bases) (target : Target) (before : List EhRecord) (at : ℕ) (first : List ℕ) (y : EhRecord)
    → EndBy target before at → IsEhRecord is_aarch64 bases target before at first y → EndBy target (before ++ y ∷ []) (at + length first)
ends-more is_aarch64 bases target before at first y ends s c among = elim (Contains-push_cases before y (eh_cie c) among) [
  | inl w ↦ wider target at (at + length first) c.cie (omega arith) (ends c w)
  | inr same ↦
      let lies : LiesAt target at (at + length first) (eh_cie c) =
      subst (LiesAt target at (at + length first)) same (record-lies is_aarch64 bases target before at first y s) in
      lies.1
]

each-reads : (is_aarch64 : Bool) (bases : Bases) (target : Target) (section : List ℕ) (records before : List EhRecord) (at : ℕ)
    → AllRead is_aarch64 target section before → EndBy target before at
    → AreEhRecords is_aarch64 bases target before at (drop at section) records → (e : EhFde) → Contains records (eh_fde e)
    → ReadsFde is_aarch64 bases target section (before ++ records) e
each-reads is_aarch64 bases target section [] before at all ends are e (k, less, is) = absurd (omega arith)
each-reads is_aarch64 bases target section (y ∷ ys) before at all ends (first, rest, parts, is, others) e (zero, less, same) =
    let next = at + length first in
    let after = section_from target section next in
    let rest_is : rest ≡ drop next section = left section first rest at parts in
    let read = record-only is_aarch64 bases target section before at y after all
    (record {
      bytes = first;
      encoded = is;
      parts = parts ∙ ap (λ (t : List ℕ). first ++ t) rest_is;
      position = refl;
      target = refl;
    }) in
    let here = begins-at is_aarch64 bases target before at first y e ends is same in
    record {
      after = after;
      read = ap (λ n. eh_record_at is_aarch64 bases section (section_from target section n)) here.offset
          ∙ (read ∙ ap (λ (x : EhRecord). read-as x after) same);
      sound = subst (λ n. IsSoundCie target n e.cie.cie) (sym here.offset) here.sound;
      among = Contains-append_left before (y ∷ ys) (eh_cie e.cie) here.among;
      pointer = here.pointer;
    }
each-reads is_aarch64 bases target section (y ∷ ys) before at all ends (first, rest, parts, is, others) e (suc k, less, same) =
    let next = at + length first in
    let after = section_from target section next in
    let rest_is : rest ≡ drop next section = left section first rest at parts in
    let read = record-only is_aarch64 bases target section before at y after all
    (record {
      bytes = first;
      encoded = is;
      parts = parts ∙ ap (λ (t : List ℕ). first ++ t) rest_is;
      position = refl;
      target = refl;
    }) in
    let more = each-reads is_aarch64 bases target section ys (before ++ y ∷ []) next
    (read-more is_aarch64 bases target section before at y after all read)
    (ends-more is_aarch64 bases target before at first y ends is)
    (subst (λ (t : List ℕ). AreEhRecords is_aarch64 bases target (before ++ y ∷ []) next t ys) rest_is others) e (k, omega arith, same) in
    record {
      after = more.after;
      read = more.read;
      sound = more.sound;
      among = subst (λ (l : List EhRecord). Contains l (eh_cie e.cie)) (append_assoc before (y ∷ []) ys) more.among;
      pointer = more.pointer;
    }

no-cies : (target : Target) → EndBy target [] 0
no-cies target c (k, less, is) = absurd (omega arith)

pub reads-fde : (is_aarch64 : Bool) (bases : Bases) (target : Target) (section : List ℕ) (records : List EhRecord)
    → AreEhRecords is_aarch64 bases target [] 0 section records → (e : EhFde) → Contains records (eh_fde e)
    → ReadsFde is_aarch64 bases target section records e
reads-fde is_aarch64 bases target section records are e among =
    each-reads is_aarch64 bases target section records [] 0 (none-read is_aarch64 target section) (no-cies target) are e among
