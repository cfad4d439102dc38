-- The fields of a CIE before its program are read exactly if the next bytes encode them.
use Rattle.std.proofs.Common.{◌≡◌, ℕ, ◌≤◌, Bool, true, false, cond, eqb, List, [], ◌∷◌, ◌++◌, length, Option, Some, None, Result, Ok, Err}
use Rattle.std.proofs.Common.{refl, sym, ap, subst, ◌∙◌, arith, inl, inr}
use Rattle.std.specs.Prelude.{◌⊎◌, ◌&&◌}
use Rattle.std.proofs.lemmas.Bool.{eqb-true, eq-eqb}
use Rattle.dw_bytes.specs.declared.target.Target.{Target}
use Rattle.dw_bytes.specs.declared.fault.Fault.{Fault}
use Rattle.dw_bytes.specs.declared.fault.FaultKind.TheVariants.{Version, Augmentation as BadAugmentation}
use Rattle.dw_bytes.specs.Encoding.{Fixed, Address}
use Rattle.dw_bytes.specs.Reading.{ReadPosition, IsExact, ◌>>=◌, section_from, fixed_at, address_at}
use Rattle.dw_bytes.specs.Operands.{Block, IsBlock, block, fixed, block_at}
use Rattle.dw_bytes.specs.Fields.{unless, Encodes, field_at, fields_at}
use Rattle.dw_bytes.proofs.Codes.{operand-exact}
use Rattle.dw_bytes.proofs.FieldsOf.{fields-exact}
use Rattle.dw_bytes.proofs.Readers.{ExactAt, fixed-exact, address-exact, leaves-suffix}
use Rattle.dw_frame.specs.Records.{is_version}
use Rattle.dw_frame.specs.Sections.{CieHeader, past_augmentation}
use Rattle.dw_eh_frame.specs.declared.augmentation.Augmentation.{Augmentation}
use Rattle.dw_eh_frame.specs.Augmentations.{no_letters, is_old, say, string_at, eh_data_at, known_or, augmentation_at}
use Rattle.dw_eh_frame.specs.Records.{EhCieHead, eh_cie_head_at}
use Rattle.dw_eh_frame.specs.Encoding.{IsString, IsEhData, IsAugmentation, IsEhCieHead}
use Rattle.dw_eh_frame.proofs.ExactSteps.{Then, finish, exact-as, exact-for, none-exact, made-exact, map-exact, then-exact, after-exact}
use Rattle.dw_eh_frame.proofs.ExactSteps.{passing, checked-exact, known, known-exact, skipping-exact}
use Rattle.dw_eh_frame.proofs.ExactStrings.{string-exact}

-- ---- the augmentation data

abbrev table-by : Bool → ReadPosition → Result ReadPosition Fault
table-by test r = cond test (address_at r >>= λ a. Ok a.1) (Ok r)

table-by-exact : (target : Target) (test : Bool)
    → ExactAt {X = Unit {0}} target (passing (table-by test)) (λ at bytes u. IsEhData target test bytes)
table-by-exact target true r same = skipping-exact address_at (Address target) r (address-exact target r same)
table-by-exact target false r same =
    exact-for {X = Unit {0}} (passing (table-by false)) (λ bytes u. (bytes ≡ []) × (u ≡ tt)) (λ bytes u. IsEhData target false bytes) r
    (λ bytes u h. h.0) (λ bytes u h. (h, refl))
    (made-exact {X = Unit {0}} tt r)

table-exact : (target : Target) (letters : List ℕ)
    → ExactAt {X = Unit {0}} target (passing (eh_data_at letters)) (λ at bytes u. IsEhData target (is_old letters) bytes)
unfolding eh_data_at
table-exact target letters r same =
    exact-as {X = Unit {0}} (passing (eh_data_at letters)) (passing (table-by (is_old letters)))
    (λ bytes u. IsEhData target (is_old letters) bytes) r
    refl (table-by-exact target (is_old letters) r same)

decided : (test : Bool) → (test ≡ true) ⊎ (test ≡ false)
decided true = inl refl
decided false = inr refl

both : (a b : Bool) → (a && b) ≡ true → a ≡ true
both true b is = refl
both false b is = absurd cc

-- the letters eh aren't z and others
not-both : (letter : ℕ) (letters : List ℕ) → eqb letter 122 ≡ true → is_old (letter ∷ letters) ≡ true → ⊥
not-both letter [] is old = cc
not-both letter (b ∷ []) is old =
    let z : letter ≡ 122 = eqb-true letter 122 is in
    let e : letter ≡ 101 = eqb-true letter 101 (both (eqb letter 101) (eqb b 104) old) in
    omega arith
not-both letter (b ∷ c ∷ letters) is old = cc

abbrev with-data : Augmentation
with-data = record no_letters { has_data = true }

is-known : (at : ℕ) (o : Option Augmentation) (r : ReadPosition) → known_or at o r ≡ known (record { kind = BadAugmentation; at = at }) o r
is-known at None r = refl
is-known at (Some a) r = refl

each-known : (at : ℕ) (make : Block → Option Augmentation) (x : Result (Block × ReadPosition) Fault)
    → (x >>= λ b. known_or at (make b.0) b.1) ≡ (x >>= λ b. known (record { kind = BadAugmentation; at = at }) (make b.0) b.1)
each-known at make (Ok b) = is-known at (make b.0) b.1
each-known at make (Err fault) = refl

abbrev augmentation-by : Bool → Bool → ℕ → List ℕ → ReadPosition → Result (Augmentation × ReadPosition) Fault
augmentation-by is_z old place letters r =
    cond is_z (block_at r >>= λ area. known_or place (say r.target letters area.0.bytes with-data) area.1)
    (cond old (Ok (no_letters, r)) (Err (record { kind = BadAugmentation; at = place })))

tail-is : (a b : ℕ) (xs ys : List ℕ) → a ∷ xs ≡ b ∷ ys → (a ≡ b) × (xs ≡ ys)
tail-is a b xs ys is = (cc, cc)

data-exact : (place letter : ℕ) (letters : List ℕ) (old : Bool) (r : ReadPosition) → eqb letter 122 ≡ true
    → IsExact (λ here. augmentation-by true old place letters here) (IsAugmentation r.target (letter ∷ letters) r.position) r
data-exact place letter letters old r is =
    let fault : Fault = record { kind = BadAugmentation; at = place } in
    let make = λ (b : Block). say r.target letters b.bytes with-data in
    exact-for (λ here. augmentation-by true old place letters here)
    (λ bytes a. (b : Block) × IsBlock r.target r.position bytes b × (say r.target letters b.bytes with-data ≡ Some a))
    (IsAugmentation r.target (letter ∷ letters) r.position) r
    (λ bytes a h. inr (record {
      others = letters;
      area = h.0;
      letters_are = ap (λ n. n ∷ letters) (eqb-true letter 122 is);
      area_is = h.1;
      says = h.2;
    }))
    (λ bytes a h. elim h [
      | inl w ↦ absurd (elim w.letters_are [ inl none ↦ absurd cc | inr eh ↦ not-both letter letters is eh ])
      | inr w ↦
          let others : letters ≡ w.others = (tail-is letter 122 letters w.others w.letters_are).1 in
          (w.area, w.area_is, ap (λ (l : List ℕ). say r.target l w.area.bytes with-data) others ∙ w.says)
    ])
    (exact-as (λ here. augmentation-by true old place letters here) (λ here. block_at here >>= λ b. known fault (make b.0) b.1)
    (λ bytes a. (b : Block) × IsBlock r.target r.position bytes b × (make b ≡ Some a)) r
    (each-known place make (block_at r))
    (known-exact block_at (IsBlock r.target r.position) make fault r (operand-exact r.target block r refl)))

eh-exact : (place letter : ℕ) (letters : List ℕ) (r : ReadPosition) → eqb letter 122 ≡ false → is_old (letter ∷ letters) ≡ true
    → IsExact (λ here. augmentation-by false true place letters here) (IsAugmentation r.target (letter ∷ letters) r.position) r
eh-exact place letter letters r is old =
    exact-for (λ here. augmentation-by false true place letters here) (λ bytes a. (bytes ≡ []) × (a ≡ no_letters))
    (IsAugmentation r.target (letter ∷ letters) r.position) r
    (λ bytes a h. inl (record { letters_are = inr old; nothing = h.0; says = h.1 }))
    (λ bytes a h. elim h [
      | inl w ↦ (w.nothing, w.says)
      | inr w ↦
          let z : eqb letter 122 ≡ true = eq-eqb letter 122 (tail-is letter 122 letters w.others w.letters_are).0 in
          absurd cc
    ])
    (made-exact no_letters r)

unknown-exact : (place letter : ℕ) (letters : List ℕ) (r : ReadPosition) → eqb letter 122 ≡ false → is_old (letter ∷ letters) ≡ false
    → IsExact (λ here. augmentation-by false false place letters here) (IsAugmentation r.target (letter ∷ letters) r.position) r
unknown-exact place letter letters r is old =
    none-exact (λ here. augmentation-by false false place letters here) (IsAugmentation r.target (letter ∷ letters) r.position)
    (record { kind = BadAugmentation; at = place }) r refl
    (λ bytes a h. elim h [
      | inl w ↦ elim w.letters_are [ inl none ↦ absurd cc | inr eh ↦ absurd cc ]
      | inr w ↦
          let z : eqb letter 122 ≡ true = eq-eqb letter 122 (tail-is letter 122 letters w.others w.letters_are).0 in
          absurd cc
    ])

augmentation-own : (place : ℕ) (letters : List ℕ) (r : ReadPosition)
    → IsExact (augmentation_at place letters) (IsAugmentation r.target letters r.position) r
unfolding augmentation_at
augmentation-own place [] r =
    exact-for (augmentation_at place []) (λ bytes a. (bytes ≡ []) × (a ≡ no_letters)) (IsAugmentation r.target [] r.position) r
    (λ bytes a h. inl (record { letters_are = inl refl; nothing = h.0; says = h.1 }))
    (λ bytes a h. elim h [ inl w ↦ (w.nothing, w.says) | inr w ↦ let none = w.letters_are in absurd cc ])
    (exact-as (augmentation_at place []) (λ here. finish no_letters here) (λ bytes a. (bytes ≡ []) × (a ≡ no_letters)) r refl
    (made-exact no_letters r))
augmentation-own place (letter ∷ letters) r =
    let read = augmentation_at place (letter ∷ letters) in
    let IsThis = IsAugmentation r.target (letter ∷ letters) r.position in
    elim (decided (eqb letter 122)) [
      | inl is ↦ exact-as read (λ here. augmentation-by true (is_old (letter ∷ letters)) place letters here) IsThis r
          (ap (λ b. augmentation-by b (is_old (letter ∷ letters)) place letters r) is)
          (data-exact place letter letters (is_old (letter ∷ letters)) r is)
      | inr is ↦ elim (decided (is_old (letter ∷ letters))) [
        | inl old ↦ exact-as read (λ here. augmentation-by false true place letters here) IsThis r
            (ap (λ b. augmentation-by b (is_old (letter ∷ letters)) place letters r) is
            ∙ ap (λ b. augmentation-by false b place letters r) old)
            (eh-exact place letter letters r is old)
        | inr old ↦ exact-as read (λ here. augmentation-by false false place letters here) IsThis r
            (ap (λ b. augmentation-by b (is_old (letter ∷ letters)) place letters r) is
            ∙ ap (λ b. augmentation-by false b place letters r) old)
            (unknown-exact place letter letters r is old)
      ]
    ]

pub augmentation-exact : (target : Target) (place : ℕ) (letters : List ℕ)
    → ExactAt target (augmentation_at place letters) (IsAugmentation target letters)
augmentation-exact target place letters r same =
    subst (λ (t : Target). IsExact (augmentation_at place letters) (IsAugmentation t letters r.position) r) same
    (augmentation-own place letters r)

-- ---- the fields

abbrev head-of : CieHeader → Augmentation → EhCieHead
head-of numbers a = record { numbers = numbers; augmentation = a }

abbrev from-data : Target → ℕ → ℕ → List ℕ → ReadPosition → Result (EhCieHead × ReadPosition) Fault
from-data target place version letters r =
    fields_at (past_augmentation (λ header. header) target version) r >>= λ numbers.
    augmentation_at place letters numbers.1 >>= λ a. finish (head-of numbers.0 a.0) a.1

abbrev IsFromNumbers : Target → List ℕ → CieHeader → ℕ → List ℕ → EhCieHead → Type 0
IsFromNumbers target letters numbers at bytes head = (a : Augmentation) × IsAugmentation target letters at bytes a ×
    (head ≡ head-of numbers a)

abbrev IsFromData : Target → ℕ → List ℕ → ℕ → List ℕ → EhCieHead → Type 0
IsFromData target version letters = Then (Encodes target (past_augmentation (λ header. header) target version))
    (IsFromNumbers target letters)

from-data-exact : (target : Target) (place version : ℕ) (letters : List ℕ)
    → ExactAt target (from-data target place version letters) (IsFromData target version letters)
from-data-exact target place version letters r same =
    then-exact target (fields_at (past_augmentation (λ header. header) target version))
    (λ numbers here. augmentation_at place letters here >>= λ a. finish (head-of numbers a.0) a.1)
    (Encodes target (past_augmentation (λ header. header) target version)) (IsFromNumbers target letters) r same
    (fields-exact target (past_augmentation (λ header. header) target version) r same)
    (λ numbers here there. map-exact (augmentation_at place letters) (IsAugmentation target letters here.position) (head-of numbers) here
    (augmentation-exact target place letters here there))

abbrev from-table : Target → ℕ → ℕ → List ℕ → ReadPosition → Result (EhCieHead × ReadPosition) Fault
from-table target place version letters r = eh_data_at letters r >>= from-data target place version letters

abbrev IsFromTable : Target → ℕ → List ℕ → ℕ → List ℕ → EhCieHead → Type 0
IsFromTable target version letters = Then {X = Unit {0}} (λ at bytes u. IsEhData target (is_old letters) bytes)
    (λ u. IsFromData target version letters)

from-table-exact : (target : Target) (place version : ℕ) (letters : List ℕ)
    → ExactAt target (from-table target place version letters) (IsFromTable target version letters)
from-table-exact target place version letters r same =
    after-exact target (eh_data_at letters) (from-data target place version letters)
    (λ at bytes u. IsEhData target (is_old letters) bytes) (IsFromData target version letters) r same
    (table-exact target letters r same) (from-data-exact target place version letters)

abbrev from-string : Target → ℕ → ReadPosition → Result (EhCieHead × ReadPosition) Fault
from-string target version r = string_at r >>= λ letters. from-table target r.position version letters.0 letters.1

abbrev IsFromString : Target → ℕ → ℕ → List ℕ → EhCieHead → Type 0
IsFromString target version = Then (λ at. IsString) (IsFromTable target version)

from-string-exact : (target : Target) (version : ℕ) → ExactAt target (from-string target version) (IsFromString target version)
from-string-exact target version r same =
    exact-as (from-string target version) (λ here. string_at here >>= λ letters. from-table target r.position version letters.0 letters.1)
    (IsFromString target version r.position) r refl
    (then-exact target string_at (from-table target r.position version) (λ at. IsString) (IsFromTable target version) r same
    (string-exact target r same) (from-table-exact target r.position version))

abbrev IsVersion : Target → List ℕ → ℕ → Type 0
IsVersion target bytes version = Fixed target.order 1 bytes version × (is_version version ≡ true)

abbrev version-at : ReadPosition → Result (ℕ × ReadPosition) Fault
version-at = field_at (fixed 1) (λ number. unless (is_version number) Version)

version-exact : (target : Target) → ExactAt target version-at (λ at. IsVersion target)
version-exact target r same =
    let here = checked-exact (fixed_at 1) (Fixed target.order 1) is_version Version r (fixed-exact target 1 r same) in
    record { found = here.found; only = here.only }

abbrev IsFromVersion : Target → ℕ → List ℕ → EhCieHead → Type 0
IsFromVersion target = Then (λ at. IsVersion target) (IsFromString target)

to-head : (target : Target) (at : ℕ) (bytes : List ℕ) (head : EhCieHead) → IsFromVersion target at bytes head
    → IsEhCieHead target at bytes head
to-head target at bytes head version =
    let string = version.next_is in
    let table = string.next_is in
    let numbers = table.next_is in
    let area = numbers.next_is in
    subst (λ (h : EhCieHead). IsEhCieHead target at bytes h) (sym area.2) (record {
      version_bytes = version.first;
      string = string.first;
      table = table.first;
      numbers = numbers.first;
      area = numbers.rest;
      version = version.value;
      letters = string.value;
      parts = version.parts ∙ ap (λ (t : List ℕ). version.first ++ t) (string.parts
          ∙ ap (λ (t : List ℕ). string.first ++ t) (table.parts ∙ ap (λ (t : List ℕ). table.first ++ t) numbers.parts));
      version_is = version.first_is.0;
      version_known = version.first_is.1;
      string_is = string.first_is;
      table_is = table.first_is;
      numbers_are = numbers.first_is;
      augmentation_is = area.1;
    })

from-head : (target : Target) (at : ℕ) (bytes : List ℕ) (head : EhCieHead) → IsEhCieHead target at bytes head
    → IsFromVersion target at bytes head
from-head target at bytes head h = record {
  value = h.version;
  first = h.version_bytes;
  rest = h.string ++ (h.table ++ (h.numbers ++ h.area));
  parts = h.parts;
  first_is = (h.version_is, h.version_known);
  next_is = record {
    value = h.letters;
    first = h.string;
    rest = h.table ++ (h.numbers ++ h.area);
    parts = refl;
    first_is = h.string_is;
    next_is = record {
      value = tt {0};
      first = h.table;
      rest = h.numbers ++ h.area;
      parts = refl;
      first_is = h.table_is;
      next_is = record {
        value = head.numbers;
        first = h.numbers;
        rest = h.area;
        parts = refl;
        first_is = h.numbers_are;
        next_is = (head.augmentation, h.augmentation_is, refl);
      };
    };
  };
}

pub head-own : (r : ReadPosition) → IsExact eh_cie_head_at (IsEhCieHead r.target r.position) r
unfolding eh_cie_head_at
head-own r =
    exact-for eh_cie_head_at (IsFromVersion r.target r.position) (IsEhCieHead r.target r.position) r
    (to-head r.target r.position) (from-head r.target r.position)
    (exact-as eh_cie_head_at (λ here. version-at here >>= λ version. from-string r.target version.0 version.1)
    (IsFromVersion r.target r.position) r
    refl
    (then-exact r.target version-at (from-string r.target) (λ at. IsVersion r.target) (IsFromString r.target) r refl
    (version-exact r.target r refl) (from-string-exact r.target)))

pub head-exact : (target : Target) → ExactAt target eh_cie_head_at (IsEhCieHead target)
head-exact target r same = subst (λ (t : Target). IsExact eh_cie_head_at (IsEhCieHead t r.position) r) same (head-own r)

-- what is left of a section
pub head-leaves : (target : Target) (section : List ℕ) (at : ℕ) (head : EhCieHead) (after : ReadPosition) → at ≤ length section
    → eh_cie_head_at (section_from target section at) ≡ Ok (head, after) → after ≡ section_from target section after.position
head-leaves target section at head after inside is =
    leaves-suffix target eh_cie_head_at (IsEhCieHead target) (head-exact target) section at head after inside is

pub ruleset head_leaves = (head-leaves)
