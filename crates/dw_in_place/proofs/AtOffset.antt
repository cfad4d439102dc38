-- What is found at an offset of a section, from the record that is read there.
use Rattle.std.proofs.Common.{◌≡◌, ℕ, ◌≤◌, Bool, true, false, cond, List, length, Option, Some, None, Result, Ok, Err, refl, ap, subst, ◌∙◌, arith}
use Rattle.std.proofs.lemmas.Bool.Decides.{nat_tests}
use Rattle.dw_bytes.specs.declared.target.Target.{Target}
use Rattle.dw_bytes.specs.declared.fault.Fault.{Fault}
use Rattle.dw_bytes.specs.Reading.{ReadPosition, ◌>>=◌, section_from}
use Rattle.dw_frame.specs.Bounds.{IsSoundFde}
use Rattle.dw_frame.specs.Records.{Fde}
use Rattle.dw_rows.specs.Section.{Covers, IsChecked, covers}
use Rattle.dw_eh_frame.specs.declared.pointer.Bases.{Bases}
use Rattle.dw_eh_frame.specs.Records.{EhFde, EhRecord, eh_cie, eh_fde, eh_nothing, eh_record_at}
use Rattle.dw_eh_frame.specs.Views.{LiesAt}
use Rattle.dw_eh_rows.specs.Signals.{fde_in}
use Rattle.dw_in_place.specs.InPlace.{alone, covering, unless_fault, fde_at, fde_in_place_fault}
use Rattle.dw_in_place.proofs.CieOfFde.{has-cie}
use Rattle.dw_in_place.proofs.OneFde.{alone-checked, faultless}

abbrev fine : {A : Type 0} → A → Result A Fault
fine a = Ok a

-- ---- whether an FDE covers an address

pub covers-so : (a : ℕ) (f : Fde) → Covers f a → covers a f ≡ true
covers-so a f here = let low = here.0 in let high = here.1 in grind (arith, nat_tests)

pub covers-then : (a : ℕ) (f : Fde) → covers a f ≡ true → Covers f a
covers-then a f e = (grind (arith, nat_tests), grind (arith, nat_tests))

covers-not : (a : ℕ) (f : Fde) → (Covers f a → ⊥) → covers a f ≡ false
covers-not a f not_here = go (covers a f) refl
  where
    go : (b : Bool) → covers a f ≡ b → b ≡ false
    go true e = absurd (not_here (covers-then a f e))
    go false e = refl

-- ---- what is made of the record

pub fde-at-is : (is_aarch64 : Bool) (bases : Bases) (target : Target) (section : List ℕ) (at a : ℕ) (x : EhRecord) (after : ReadPosition)
    → eh_record_at is_aarch64 bases section (section_from target section at) ≡ Ok (x, after)
    → fde_at is_aarch64 bases target section at a ≡ covering a (fde_in x)
unfolding fde_at
fde-at-is is_aarch64 bases target section at a x after is =
    ap (λ (r : Result (EhRecord × ReadPosition) Fault). r >>= λ found. covering a (fde_in found.0)) is

pub fde-at-unread : (is_aarch64 : Bool) (bases : Bases) (target : Target) (section : List ℕ) (at a : ℕ) (fault : Fault)
    → eh_record_at is_aarch64 bases section (section_from target section at) ≡ Err fault
    → fde_at is_aarch64 bases target section at a ≡ Err fault
unfolding fde_at
fde-at-unread is_aarch64 bases target section at a fault is =
    ap (λ (r : Result (EhRecord × ReadPosition) Fault). r >>= λ found. covering a (fde_in found.0)) is

pub covering-is : (a : ℕ) (e : EhFde) → Covers e.fde a → fde_in_place_fault e ≡ None → covering a (Some e) ≡ fine (Some e)
covering-is a e here none =
    ap (λ b. cond b (unless_fault (fde_in_place_fault e) e) (fine None)) (covers-so a e.fde here)
    ∙ ap (λ (o : Option Fault). unless_fault o e) none

pub covering-refused : (a : ℕ) (e : EhFde) (fault : Fault) → Covers e.fde a → fde_in_place_fault e ≡ Some fault
    → covering a (Some e) ≡ Err fault
covering-refused a e fault here some =
    ap (λ b. cond b (unless_fault (fde_in_place_fault e) e) (fine None)) (covers-so a e.fde here)
    ∙ ap (λ (o : Option Fault). unless_fault o e) some

pub covering-none : (a : ℕ) (e : EhFde) → (Covers e.fde a → ⊥) → covering a (Some e) ≡ fine None
covering-none a e none = ap (λ b. cond b (unless_fault (fde_in_place_fault e) e) (fine None)) (covers-not a e.fde none)

-- ---- an FDE that was read

pub is-fde : (x : EhRecord) (e : EhFde) → fde_in x ≡ Some e → x ≡ eh_fde e
is-fde (eh_fde d) e is = let same : d ≡ e = cc in ap eh_fde same
is-fde (eh_cie c) e is = absurd cc
is-fde (eh_nothing n) e is = absurd cc

wider-fde : (target : Target) (next size : ℕ) (f : Fde) → next ≤ size → IsSoundFde target next f → IsSoundFde target size f
wider-fde target next size f le sound = record {
  program = record {
    begins = sound.program.begins;
    ends = omega (arith, le, sound.program.ends);
    target_is = sound.program.target_is;
  };
  pointer_past = sound.pointer_past;
  pointer_before = sound.pointer_before;
  range = sound.range;
}

-- an FDE without a fault that was read, with its CIE, is an accepted section, and its CIE_pointer is
-- the CIE's offset
pub record IsAlone (target : Target) (section : List ℕ) (e : EhFde) : Type 0 where
  pub checked : IsChecked (alone target section e)
  pub pointer : e.fde.cie_pointer ≡ e.cie.cie.offset

pub read-alone : (is_aarch64 : Bool) (bases : Bases) (target : Target) (section : List ℕ) (at next : ℕ) (x : EhRecord) (e : EhFde)
    → eh_record_at is_aarch64 bases section (section_from target section at) ≡ Ok (x, section_from target section next)
    → LiesAt target at next x → next ≤ length section → fde_in x ≡ Some e → fde_in_place_fault e ≡ None → IsAlone target section e
read-alone is_aarch64 bases target section at next x e read lies inside is none =
    let same = is-fde x e is in
    let after = section_from target section next in
    let here = has-cie is_aarch64 bases target section at e after (read ∙ ap (λ (y : EhRecord). fine {A = EhRecord × ReadPosition} (y, after)) same) in
    let there : LiesAt target at next (eh_fde e) = subst (LiesAt target at next) same lies in
    record {
      checked = alone-checked target section e here.sound.0 here.sound.1 (wider-fde target next (length section) e.fde inside there.1)
          here.pointer (faultless e none);
      pointer = here.pointer;
    }
