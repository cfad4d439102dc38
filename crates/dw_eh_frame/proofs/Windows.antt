-- What is left of a record after the fields before its program: the program.
use Rattle.std.proofs.Common.{◌≡◌, ℕ, ℤ, ◌≤◌, Bool, List, length, take, Result, Ok, refl, sym, ap, ◌∙◌, arith}
use Rattle.std.proofs.lemmas.List.{length-take}
use Rattle.dw_bytes.specs.declared.target.Target.{Target}
use Rattle.dw_bytes.specs.declared.target.Format.{Format}
use Rattle.dw_bytes.specs.declared.fault.Fault.{Fault}
use Rattle.dw_bytes.specs.Bodies.{window}
use Rattle.dw_bytes.specs.Encoding.{Fixed}
use Rattle.dw_bytes.specs.Reading.{ReadPosition, ◌>>=◌, fixed_at}
use Rattle.dw_bytes.proofs.Readers.{ExactAt, fixed-exact, leaves-suffix}
use Rattle.dw_frame.specs.declared.dialect.Dialect.{Dialect}
use Rattle.dw_frame.specs.Dialects.{ProgramPosition, in_dialect}
use Rattle.dw_eh_frame.specs.declared.pointer.Bases.{Bases}
use Rattle.dw_eh_frame.specs.Dialects.{dialect_for}
use Rattle.dw_eh_frame.specs.Encoding.{IsEhCieHead, IsEhFdeHead}
use Rattle.dw_eh_frame.specs.Pointers.{pointer_at, range_at}
use Rattle.dw_eh_frame.specs.Records.{EhCie, EhCieHead, EhFde, eh_area_at, eh_cie_from, eh_cie_head_at, eh_cie_with, eh_fde_from}
use Rattle.dw_eh_frame.proofs.ExactHeads.{head-exact}
use Rattle.dw_eh_frame.proofs.ExactPointers.{fde_head_at, fde-head-exact}

-- after an exact read
left : {X : Type 0} (section : List ℕ) (end : ℕ) (r after : ReadPosition) (read : ReadPosition → Result (X × ReadPosition) Fault)
    (IsEncoding : ℕ → List ℕ → X → Type 0) → ExactAt r.target read IsEncoding → (x : X) → r.position ≤ end → end ≤ length section
    → r ≡ window r.target section r.position end → read r ≡ Ok (x, after) → after ≡ window r.target section after.position end
left section end r after read IsEncoding exact x ordered inside whole is =
    leaves-suffix r.target read IsEncoding exact (take end section) r.position x after
    (omega (arith, length-take end section, ordered, inside)) (ap read (sym whole) ∙ is)

-- after the first four bytes of a body
pub id-left : (target : Target) (section : List ℕ) (start end id : ℕ) (r after : ReadPosition) → r ≡ window target section start end
    → start ≤ end → end ≤ length section → fixed_at 4 r ≡ Ok (id, after) → after ≡ window after.target section after.position end
id-left target section start end id r after whole ordered inside is =
    let rest = leaves-suffix target (fixed_at 4) (λ here. Fixed target.order 4) (fixed-exact target 4) (take end section) start id after
    (omega (arith, length-take end section, ordered, inside)) (ap (fixed_at 4) (sym whole) ∙ is) in
    rest ∙ ap (λ (t : Target). window t section after.position end) (sym (ap (λ (p : ReadPosition). p.target) rest))

abbrev pub cie-made : ℕ → Format → EhCieHead → ℤ → ProgramPosition → EhCie
cie-made at format head z program = record {
  cie = record {
    offset = at;
    format = format;
    version = head.numbers.version;
    code_alignment_factor = head.numbers.code_alignment_factor;
    data_alignment_factor = z;
    return_address_register = head.numbers.return_address_register;
    program = program;
  };
  augmentation = head.augmentation;
}

pub cie-read : (a : Bool) (at : ℕ) (format : Format) (section : List ℕ) (end : ℕ) (r after : ReadPosition) (head : EhCieHead) (z : ℤ)
    (program : ProgramPosition) (target : Target) (position : ℕ) (dialect : Dialect) → r.position ≤ end → end ≤ length section
    → r ≡ window r.target section r.position end → eh_cie_head_at r ≡ Ok (head, after) → z ≡ head.numbers.data_alignment_factor
    → program ≡ in_dialect dialect (window target section position end)
    → target ≡ r.target → position ≡ after.position → dialect ≡ dialect_for a head.augmentation
    → eh_cie_from a at format r ≡ Ok (cie-made at format head z program)
unfolding eh_cie_from
cie-read a at format section end r after head z program target position dialect ordered inside whole is z_is program_is target_is position_is
    dialect_is =
    let rest = left section end r after eh_cie_head_at (IsEhCieHead r.target) (head-exact r.target) head ordered inside whole is in
    ap (λ (h : Result (EhCieHead × ReadPosition) Fault). h >>= λ found. Ok (eh_cie_with a at format found.0 found.1)) is
    ∙ (ap (λ (p : ProgramPosition). done-cie (cie-made at format head head.numbers.data_alignment_factor p))
    (ap (in_dialect (dialect_for a head.augmentation)) rest
    ∙ (ap (λ (t : Target). in_dialect (dialect_for a head.augmentation) (window t section after.position end)) (sym target_is)
    ∙ (ap (λ n. in_dialect (dialect_for a head.augmentation) (window target section n end)) (sym position_is)
    ∙ (ap (λ (d : Dialect). in_dialect d (window target section position end)) (sym dialect_is) ∙ sym program_is))))
    ∙ ap (λ (y : ℤ). done-cie (cie-made at format head y program)) (sym z_is))
  where
    done-cie : EhCie → Result EhCie Fault
    done-cie e = Ok e

abbrev pub fde-made : ℕ → Format → ℕ → ℕ → EhCie → ℕ → ℕ → ProgramPosition → EhFde
fde-made at format pointer place cie initial range program = record {
  fde = record {
    offset = at;
    format = format;
    cie_pointer = pointer;
    cie_pointer_offset = place;
    initial_location = initial;
    address_range = range;
    program = program;
  };
  cie = cie;
}

abbrev fde-done : ℕ → Format → ℕ → ℕ → EhCie → ℕ → ℕ → ProgramPosition → Result EhFde Fault
fde-done at format pointer place cie initial range program = Ok (fde-made at format pointer place cie initial range program)

pub fde-read : (bases : Bases) (at : ℕ) (format : Format) (place : ℕ) (cie : EhCie) (section : List ℕ) (end : ℕ)
    (r first second third : ReadPosition) (initial range pointer : ℕ) (program : ProgramPosition) (target : Target) (position : ℕ) (dialect : Dialect)
    → r.position ≤ end → end ≤ length section → r ≡ window r.target section r.position end → pointer_at bases cie.augmentation.addresses r ≡ Ok (initial, first)
    → range_at cie.augmentation.addresses.format initial first ≡ Ok (range, second)
    → eh_area_at cie.augmentation.has_data second ≡ Ok third → program ≡ in_dialect dialect (window target section position end)
    → target ≡ r.target → position ≡ third.position → dialect ≡ cie.cie.program.dialect → pointer ≡ cie.cie.offset
    → eh_fde_from bases at format place cie r ≡ Ok (fde-made at format pointer place cie initial range program)
unfolding eh_fde_from
fde-read bases at format place cie section end r first second third initial range pointer program target position dialect ordered inside whole
    pointer_is range_is area_is program_is target_is position_is dialect_is offset_is =
    let both : fde_head_at bases cie.augmentation r ≡ Ok ((initial, range), third) = rw (pointer_is, range_is, area_is) refl in
    let rest = left section end r third (fde_head_at bases cie.augmentation) (IsEhFdeHead bases cie.augmentation r.target)
    (fde-head-exact r.target bases cie.augmentation) (initial, range) ordered inside whole both in
    rw (pointer_is, range_is, area_is)
    (ap (fde-done at format cie.cie.offset place cie initial range)
    (ap (in_dialect cie.cie.program.dialect) rest
    ∙ (ap (λ (t : Target). in_dialect cie.cie.program.dialect (window t section third.position end)) (sym target_is)
    ∙ (ap (λ n. in_dialect cie.cie.program.dialect (window target section n end)) (sym position_is)
    ∙ (ap (λ (d : Dialect). in_dialect d (window target section position end)) (sym dialect_is) ∙ sym program_is))))
    ∙ ap (λ n. fde-done at format n place cie initial range program) (sym offset_is))
