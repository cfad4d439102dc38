-- The CIE of an FDE is what is read at the FDE's CIE_pointer.
use Rattle.std.proofs.Common.{◌≡◌, ℕ, Bool, zero, suc, ◌+◌, List, [], ◌∷◌, ◌++◌, length, drop, Contains, Result, Ok, refl, sym, ap, subst, ◌∙◌, arith, inl, inr}
use Rattle.dw_bytes.specs.declared.target.Target.{Target}
use Rattle.dw_bytes.specs.declared.fault.Fault.{Fault}
use Rattle.dw_bytes.specs.Reading.{section_from}
use Rattle.dw_eh_frame.specs.declared.pointer.Bases.{Bases}
use Rattle.dw_eh_frame.specs.Records.{EhCie, EhFde, EhRecord, eh_cie, eh_fde, eh_nothing, eh_cie_at}
use Rattle.dw_eh_frame.specs.Encoding.{IsEhRecord, AreEhRecords}
use Rattle.dw_eh_frame.proofs.ExactBodies.{AllRead}
use Rattle.dw_eh_frame.proofs.ExactRecords.{record-only, left, read-more, none-read}

abbrev read-as : EhCie → Result EhCie Fault
read-as c = Ok c

-- the CIE of the record, if it is an FDE, is read at its pointer
abbrev HasOwnCie : Bool → Target → List ℕ → EhRecord → Type 0
HasOwnCie is_aarch64 target section (eh_fde e) = eh_cie_at is_aarch64 target section e.fde.cie_pointer ≡ read-as e.cie
HasOwnCie is_aarch64 target section (eh_cie c) = Unit {0}
HasOwnCie is_aarch64 target section (eh_nothing at) = Unit {0}

one-has : (is_aarch64 : Bool) (bases : Bases) (target : Target) (section : List ℕ) (before : List EhRecord) (at : ℕ) (bytes : List ℕ) (x : EhRecord)
    → AllRead is_aarch64 target section before → IsEhRecord is_aarch64 bases target before at bytes x → HasOwnCie is_aarch64 target section x
one-has is_aarch64 bases target section before at bytes x all s = elim s.body_is [
  | inl nothing ↦ subst (HasOwnCie is_aarch64 target section) (sym nothing.record_is) tt
  | inr (inl cie) ↦ subst (HasOwnCie is_aarch64 target section) (sym cie.record_is) tt
  | inr (inr fde) ↦ subst (HasOwnCie is_aarch64 target section) (sym fde.record_is) (all fde.cie fde.cie_is_before)
]

each-has : (is_aarch64 : Bool) (bases : Bases) (target : Target) (section : List ℕ) (records before : List EhRecord) (at : ℕ)
    → AllRead is_aarch64 target section before → AreEhRecords is_aarch64 bases target before at (drop at section) records
    → (x : EhRecord) → Contains records x → HasOwnCie is_aarch64 target section x
each-has is_aarch64 bases target section [] before at all are x (k, less, is) = absurd (omega arith)
each-has is_aarch64 bases target section (y ∷ ys) before at all (first, rest, parts, is, others) x (zero, less, same) =
    subst (HasOwnCie is_aarch64 target section) same (one-has is_aarch64 bases target section before at first y all is)
each-has is_aarch64 bases target section (y ∷ ys) before at all (first, rest, parts, is, others) x (suc k, less, same) =
    let next = at + length first in
    let rest_is : rest ≡ drop next section = left section first rest at parts in
    let read = record-only is_aarch64 bases target section before at y (section_from target section next) all
    (record {
      bytes = first;
      encoded = is;
      parts = parts ∙ ap (λ (t : List ℕ). first ++ t) rest_is;
      position = refl;
      target = refl;
    }) in
    each-has is_aarch64 bases target section ys (before ++ y ∷ []) next
    (read-more is_aarch64 bases target section before at y (section_from target section next) all read)
    (subst (λ (t : List ℕ). AreEhRecords is_aarch64 bases target (before ++ y ∷ []) next t ys) rest_is others) x (k, omega arith, same)

pub fde-has : (is_aarch64 : Bool) (bases : Bases) (target : Target) (section : List ℕ) (records : List EhRecord)
    → AreEhRecords is_aarch64 bases target [] 0 section records → (e : EhFde) → Contains records (eh_fde e)
    → eh_cie_at is_aarch64 target section e.fde.cie_pointer ≡ Ok e.cie
fde-has is_aarch64 bases target section records are e among =
    each-has is_aarch64 bases target section records [] 0 (none-read is_aarch64 target section) are (eh_fde e) among
