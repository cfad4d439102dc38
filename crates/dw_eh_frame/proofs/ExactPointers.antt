-- The fields of an FDE after its CIE pointer are read exactly if the next bytes encode them.
use Rattle.std.proofs.Common.{◌≡◌, ℕ, ◌+◌, ◌≤◌, Bool, true, false, List, [], ◌++◌, length, Option, Some, None, Result, Ok, refl, sym, ap}
use Rattle.std.proofs.Common.{subst, ◌∙◌}
use Rattle.std.specs.Int.{w64, cast_unsigned}
use Rattle.dw_bytes.specs.declared.target.Target.{Target}
use Rattle.dw_bytes.specs.declared.fault.Fault.{Fault}
use Rattle.dw_bytes.specs.declared.fault.FaultKind.TheVariants.{RangePastTop}
use Rattle.dw_bytes.specs.Encoding.{Bytes, Fixed, Address, Uleb, Sleb}
use Rattle.dw_bytes.specs.Reading.{ReadPosition, IsExact, ◌>>=◌, section_from, take_at, fixed_at, address_at, uleb_at, sleb_at}
use Rattle.dw_bytes.specs.Operands.{IsBlock, block, block_at}
use Rattle.dw_bytes.specs.Fields.{ok_unless, unless}
use Rattle.dw_bytes.proofs.Codes.{operand-exact}
use Rattle.dw_bytes.proofs.Readers.{ExactAt, bind-ok, take-exact, fixed-exact, address-exact, uleb-exact, sleb-exact, leaves-suffix}
use Rattle.dw_eh_frame.specs.declared.augmentation.Augmentation.{Augmentation}
use Rattle.dw_eh_frame.specs.declared.pointer.Bases.{Bases}
use Rattle.dw_eh_frame.specs.declared.pointer.PointerFormat.{PointerFormat}
use Rattle.dw_eh_frame.specs.declared.pointer.PointerFormat.TheVariants as formats
use Rattle.dw_eh_frame.specs.declared.pointer.PointerEncoding.{PointerEncoding}
use Rattle.dw_eh_frame.specs.Pointers.{sign_extended, number_at, base_at, known_base, padding_at, wrapped, pointer_at, is_range, range_at}
use Rattle.dw_eh_frame.specs.Records.{eh_area_at}
use Rattle.dw_eh_frame.specs.Encoding.{IsNumber, IsPointer, IsRange, IsArea, IsEhFdeHead}
use Rattle.dw_eh_frame.proofs.ExactSteps.{Then, finish, exact-as, exact-for, made-exact, map-exact, then-exact, passing, checked-exact}
use Rattle.dw_eh_frame.proofs.ExactSteps.{skipping-exact, passed-exact}

-- ---- the number of a pointer

pub number-exact : (target : Target) (format : PointerFormat) → ExactAt target (number_at format) (λ at. IsNumber target format)
number-exact target formats.Address r same = exact-as (number_at formats.Address) address_at (Address target) r refl
    (address-exact target r same)
number-exact target formats.Uleb r same = exact-as (number_at formats.Uleb) uleb_at Uleb r refl (uleb-exact target r same)
number-exact target formats.U16 r same = exact-as (number_at formats.U16) (fixed_at 2) (Fixed target.order 2) r refl
    (fixed-exact target 2 r same)
number-exact target formats.U32 r same = exact-as (number_at formats.U32) (fixed_at 4) (Fixed target.order 4) r refl
    (fixed-exact target 4 r same)
number-exact target formats.U64 r same = exact-as (number_at formats.U64) (fixed_at 8) (Fixed target.order 8) r refl
    (fixed-exact target 8 r same)
number-exact target formats.Sleb r same =
    exact-as (number_at formats.Sleb) (λ here. sleb_at here >>= λ z. finish (cast_unsigned w64 z.0) z.1)
    (IsNumber target formats.Sleb) r refl
    (map-exact sleb_at Sleb (cast_unsigned w64) r (sleb-exact target r same))
number-exact target formats.I16 r same =
    exact-as (number_at formats.I16) (λ here. fixed_at 2 here >>= λ n. finish (sign_extended 2 n.0) n.1)
    (IsNumber target formats.I16) r refl
    (map-exact (fixed_at 2) (Fixed target.order 2) (sign_extended 2) r (fixed-exact target 2 r same))
number-exact target formats.I32 r same =
    exact-as (number_at formats.I32) (λ here. fixed_at 4 here >>= λ n. finish (sign_extended 4 n.0) n.1)
    (IsNumber target formats.I32) r refl
    (map-exact (fixed_at 4) (Fixed target.order 4) (sign_extended 4) r (fixed-exact target 4 r same))
number-exact target formats.I64 r same = exact-as (number_at formats.I64) (fixed_at 8) (Fixed target.order 8) r refl
    (fixed-exact target 8 r same)

-- ---- an address

abbrev fine : {A : Type 0} → A → Result A Fault
fine a = Ok a

known : (o : Option ℕ) (r : ReadPosition) (base : ℕ) → known_base o r ≡ fine base → o ≡ Some base
known None r base is = absurd cc
known (Some n) r base is = cc

-- what is read after the base is known
abbrev from-base : Bases → PointerEncoding → Target → ℕ → ℕ → ReadPosition → Result (ℕ × ReadPosition) Fault
from-base bases encoding target at base r = take_at (padding_at bases target encoding.base at) r >>= λ place.
    number_at encoding.format place.1 >>= λ number. finish (wrapped target (base + number.0)) number.1

abbrev IsFromBase : Bases → PointerEncoding → Target → ℕ → ℕ → ℕ → List ℕ → ℕ → Type 0
IsFromBase bases encoding target at base = Then (λ here. Bytes (padding_at bases target encoding.base at))
    (λ padding here bytes address. (n : ℕ) × IsNumber target encoding.format bytes n × (address ≡ wrapped target (base + n)))

base-exact : (bases : Bases) (encoding : PointerEncoding) (target : Target) (at base : ℕ)
    → ExactAt target (from-base bases encoding target at base) (IsFromBase bases encoding target at base)
base-exact bases encoding target at base r same =
    let n = padding_at bases target encoding.base at in
    then-exact target (take_at n) (λ padding here. number_at encoding.format here >>= λ number. finish
    (wrapped target (base + number.0)) number.1)
    (λ here. Bytes n)
    (λ padding here bytes address. (n : ℕ) × IsNumber target encoding.format bytes n × (address ≡ wrapped target (base + n))) r same
    (take-exact target n r same)
    (λ padding here there. map-exact (number_at encoding.format) (IsNumber target encoding.format) (λ n. wrapped target (base + n)) here
    (number-exact target encoding.format here there))

pub pointer-own : (bases : Bases) (encoding : PointerEncoding) (r : ReadPosition)
    → IsExact (pointer_at bases encoding) (IsPointer bases encoding r.target r.position) r
unfolding pointer_at
pointer-own bases encoding r = record {
  found = λ address after is.
      let b = bind-ok (known_base (base_at bases encoding.base r.position) r)
      (λ base. from-base bases encoding r.target r.position base r) (address, after) is in
      let h = (base-exact bases encoding r.target r.position b.0 r refl).found address after b.2 in
      let s = h.encoded in
      record {
        bytes = h.bytes;
        encoded = record {
          base = b.0;
          number = s.next_is.0;
          padding = s.first;
          written = s.rest;
          base_is = known (base_at bases encoding.base r.position) r b.0 b.1;
          parts = s.parts;
          padded = s.first_is.count;
          number_is = s.next_is.1;
          address_is = s.next_is.2;
        };
        parts = h.parts;
        position = h.position;
        target = h.target;
      };
  only = λ address after h.
      let s = h.encoded in
      let is = (base-exact bases encoding r.target r.position s.base r refl).only address after (record {
        bytes = h.bytes;
        encoded = record {
          value = s.padding;
          first = s.padding;
          rest = s.written;
          parts = s.parts;
          first_is = record { count = s.padded; value = refl };
          next_is = (s.number, s.number_is, s.address_is);
        };
        parts = h.parts;
        position = h.position;
        target = h.target;
      }) in
      ap (λ (o : Option ℕ). known_base o r >>= λ base. from-base bases encoding r.target r.position base r) s.base_is ∙ is;
}

pub pointer-exact : (target : Target) (bases : Bases) (encoding : PointerEncoding)
    → ExactAt target (pointer_at bases encoding) (IsPointer bases encoding target)
pointer-exact target bases encoding r same =
    subst (λ (t : Target). IsExact (pointer_at bases encoding) (IsPointer bases encoding t r.position) r) same
    (pointer-own bases encoding r)

-- ---- a number of addresses

pub range-own : (format : PointerFormat) (initial : ℕ) (r : ReadPosition)
    → IsExact (range_at format initial) (IsRange r.target format initial) r
unfolding range_at
range-own format initial r =
    exact-for (range_at format initial) (λ bytes range. IsNumber r.target format bytes range × (is_range r.target initial range ≡ true))
    (IsRange r.target format initial) r
    (λ bytes range h. record { number_is = h.0; fits = h.1 })
    (λ bytes range h. (h.number_is, h.fits))
    (exact-as (range_at format initial)
    (λ here. number_at format here >>= λ n. ok_unless (unless (is_range r.target initial n.0) RangePastTop) here.position n)
    (λ bytes range. IsNumber r.target format bytes range × (is_range r.target initial range ≡ true)) r refl
    (checked-exact (number_at format) (IsNumber r.target format) (is_range r.target initial) RangePastTop r
    (number-exact r.target format r refl)))

pub range-exact : (target : Target) (format : PointerFormat) (initial : ℕ)
    → ExactAt target (range_at format initial) (λ at. IsRange target format initial)
range-exact target format initial r same =
    subst (λ (t : Target). IsExact (range_at format initial) (IsRange t format initial) r) same (range-own format initial r)

-- ---- augmentation data

pub area-exact : (target : Target) (has_data : Bool)
    → ExactAt {X = Unit {0}} target (passing (eh_area_at has_data)) (λ at bytes u. IsArea target has_data at bytes)
area-exact target true r same = skipping-exact block_at (IsBlock target r.position) r (operand-exact target block r same)
area-exact target false r same =
    exact-for {X = Unit {0}} (passing (eh_area_at false)) (λ bytes u. (bytes ≡ []) × (u ≡ tt))
    (λ bytes u. IsArea target false r.position bytes) r
    (λ bytes u h. h.0) (λ bytes u h. (h, refl))
    (made-exact {X = Unit {0}} tt r)

-- ---- the fields of an FDE

-- what an FDE says before its program, read from the offset after its CIE pointer on
abbrev pub fde_head_at : Bases → Augmentation → ReadPosition → Result ((ℕ × ℕ) × ReadPosition) Fault
fde_head_at bases a r = pointer_at bases a.addresses r >>= λ initial.
    range_at a.addresses.format initial.0 initial.1 >>= λ range.
    eh_area_at a.has_data range.1 >>= λ after. finish (initial.0, range.0) after

abbrev IsPastRange : Augmentation → Target → ℕ → ℕ → ℕ → List ℕ → ℕ × ℕ → Type 0
IsPastRange a target initial range at bytes addresses = IsArea target a.has_data at bytes × (addresses ≡ (initial, range))

abbrev IsPastPointer : Augmentation → Target → ℕ → ℕ → List ℕ → ℕ × ℕ → Type 0
IsPastPointer a target initial = Then (λ at. IsRange target a.addresses.format initial) (IsPastRange a target initial)

past-range-exact : (target : Target) (a : Augmentation) (initial range : ℕ)
    → ExactAt target (λ here. eh_area_at a.has_data here >>= λ after. finish (initial, range) after) (IsPastRange a target initial range)
past-range-exact target a initial range r same =
    passed-exact (eh_area_at a.has_data) (λ bytes u. IsArea target a.has_data r.position bytes) (initial, range) r
    (area-exact target a.has_data r same)

past-pointer-exact : (target : Target) (a : Augmentation) (initial : ℕ)
    → ExactAt target (λ here. range_at a.addresses.format initial here >>= λ range.
    eh_area_at a.has_data range.1 >>= λ after. finish (initial, range.0) after) (IsPastPointer a target initial)
past-pointer-exact target a initial r same =
    then-exact target (range_at a.addresses.format initial) (λ range here. eh_area_at a.has_data here >>= λ after. finish
    (initial, range) after)
    (λ at. IsRange target a.addresses.format initial) (IsPastRange a target initial) r same
    (range-exact target a.addresses.format initial r same) (past-range-exact target a initial)

pub fde-head-exact : (target : Target) (bases : Bases) (a : Augmentation)
    → ExactAt target (fde_head_at bases a) (IsEhFdeHead bases a target)
fde-head-exact target bases a r same =
    exact-for (fde_head_at bases a) (Then (IsPointer bases a.addresses target) (IsPastPointer a target) r.position)
    (IsEhFdeHead bases a target r.position) r
    (λ bytes addresses h.
    let k = h.next_is in
    subst (λ (v : ℕ × ℕ). IsEhFdeHead bases a target r.position bytes v) (sym k.next_is.1) (record {
      pointer = h.first;
      range = k.first;
      area = k.rest;
      parts = h.parts ∙ ap (λ (t : List ℕ). h.first ++ t) k.parts;
      initial_is = h.first_is;
      range_is = k.first_is;
      area_is = k.next_is.0;
    }))
    (λ bytes addresses h. record {
      value = addresses.0;
      first = h.pointer;
      rest = h.range ++ h.area;
      parts = h.parts;
      first_is = h.initial_is;
      next_is = record {
        value = addresses.1;
        first = h.range;
        rest = h.area;
        parts = refl;
        first_is = h.range_is;
        next_is = (h.area_is, refl);
      };
    })
    (then-exact target (pointer_at bases a.addresses)
    (λ initial here. range_at a.addresses.format initial here >>= λ range.
    eh_area_at a.has_data range.1 >>= λ after. finish (initial, range.0) after)
    (IsPointer bases a.addresses target) (IsPastPointer a target) r same
    (pointer-exact target bases a.addresses r same) (past-pointer-exact target a))

-- ---- what is left of a section

pub pointer-leaves : (target : Target) (section : List ℕ) (at : ℕ) (bases : Bases) (encoding : PointerEncoding) (address : ℕ)
    (after : ReadPosition)
    → at ≤ length section → pointer_at bases encoding (section_from target section at) ≡ Ok (address, after)
    → after ≡ section_from target section after.position
pointer-leaves target section at bases encoding address after inside is =
    leaves-suffix target (pointer_at bases encoding) (IsPointer bases encoding target)
    (pointer-exact target bases encoding) section at address after inside is

pub range-leaves : (target : Target) (section : List ℕ) (at : ℕ) (format : PointerFormat) (initial range : ℕ) (after : ReadPosition)
    → at ≤ length section → range_at format initial (section_from target section at) ≡ Ok (range, after)
    → after ≡ section_from target section after.position
range-leaves target section at format initial range after inside is =
    leaves-suffix target (range_at format initial) (λ here. IsRange target format initial)
    (range-exact target format initial) section at range after inside is

pub area-leaves : (target : Target) (section : List ℕ) (at : ℕ) (has_data : Bool) (after : ReadPosition)
    → at ≤ length section → eh_area_at has_data (section_from target section at) ≡ Ok after
    → after ≡ section_from target section after.position
area-leaves target section at has_data after inside is =
    leaves-suffix {X = Unit {0}} target (passing (eh_area_at has_data)) (λ here bytes u. IsArea target has_data here bytes)
    (area-exact target has_data)
    section at tt after inside (ap (λ (x : Result ReadPosition Fault). x >>= λ a. finish {A = Unit {0}} tt a) is)

pub ruleset fde_leaves = (pointer-leaves, range-leaves, area-leaves)
