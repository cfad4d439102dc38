-- The ranges of a section's FDEs, in order of address.
use Rattle.std.proofs.Common.{◌≡◌, ℕ, ◌+◌, ◌<◌, ◌≤◌, Bool, true, false, List, [], ◌∷◌, length, map, take, get_or, refl, sym, ap, ◌∙◌, subst, arith, inl, inr}
use Rattle.std.proofs.Common.{Some, None, Result, Ok, Err, Contains}
use Rattle.std.specs.Prelude.{◌||◌, ◌&&◌, nat_lt, nat_le}
use Rattle.std.specs.List.{list_any}
use Rattle.std.proofs.lemmas.Bool.{cases_lt}
use Rattle.std.proofs.lemmas.Bool.Decides.{nat_tests}
use Rattle.std.proofs.lemmas.List.{get_or_default, take_all}
use Rattle.std.proofs.lemmas.List.Folds.{Any-from_list_any, list_any_at, list_any_more}
use Rattle.dw_bytes.specs.declared.fault.Fault.{Fault}
use Rattle.dw_frame.specs.Codes.{instructions_of}
use Rattle.dw_frame.specs.Instructions.{Instruction}
use Rattle.dw_frame.specs.Records.{Cie, Fde}
use Rattle.dw_rules.specs.Effects.{effect_of}
use Rattle.dw_rules.specs.InForce.{fde_start}
use Rattle.dw_rules.specs.ProgramFault.{fde_fault, fde_fault_from}
use Rattle.dw_rows.specs.AddressIndex.{IsIndexOf}
use Rattle.dw_rows.specs.Section.{Covers, CoversOnce, FrameSection, IsChecked, cie_in}
use Rattle.dw_rows.proofs.sections.CheckedSections.{checked-once}
use Rattle.dw_rows.proofs.sections.FdesOfSections.{fde-good}
use Rattle.dw_signed_rows.specs.SignedRanges.{AreInOrder, ends_at, has_signed}
use Rattle.dw_signed_rows.specs.SignedRows.{instructions_in, is_signed_after, is_signed_in, is_signed_up_to, location_by, signed_by_cie}
use Rattle.dw_signed_rows.specs.SignedSections.{is_signed_by, is_signed_of}
use Rattle.dw_signed_rows.specs.declared.signed_range.SignedRange.{SignedRange}
use Rattle.dw_signed_rows.proofs.Programs.{forward, refused-not}

-- ---- what is signed is covered

signed-up-to : (low at to a : ℕ) (b : Bool) → low ≤ at → ((nat_le at a && nat_lt a to) && b) ≡ true → (low ≤ a) × (a < to)
signed-up-to low at to a true from is = (grind (arith, nat_tests), grind (arith, nat_tests))
signed-up-to low at to a false from is = grind (arith, nat_tests)

either-or : {P : Type 0} (b c : Bool) → (b || c) ≡ true → (b ≡ true → P) → (c ≡ true → P) → P
either-or true c is first second = first refl
either-or false c is first second = second is

below-end : (end to a : ℕ) → a < to → nat_lt end to ≡ false → a < end
below-end end to a high within = grind (arith, nat_tests)

-- the location of a program never is below the FDE's first address
signed-within : (c : Cie) (f : Fde) (first : Bool) (before : List Instruction) (items : List (Result (ℕ × Instruction) Fault))
    → fde_fault_from c f (map (effect_of c) before) items ≡ None → f.initial_location ≤ location_by c (fde_start c f) before → (a : ℕ)
    → is_signed_after c (fde_start c f) first before (instructions_in items) a ≡ true → Covers f a
signed-within c f first before [] none from a is = signed-up-to f.initial_location _ _ a _ from is
signed-within c f first before (Err fault ∷ items) none from a is = absurd cc
signed-within c f first before (Ok (at, i) ∷ items) none from a is =
    let known = refused-not c f at i items before none in
    let s = fde_start c f in
    let x = effect_of c i in
    let es = map (effect_of c) before in
    let on = forward s es x known.0 in
    let within = known.0.within in
    either-or (is_signed_up_to c s first before (location_by c s (i ∷ before)) a)
    (is_signed_after c s first (i ∷ before) (instructions_in items) a) is
    (λ here.
    let (low, high) = signed-up-to f.initial_location _ _ a _ from here in
    (low, below-end _ _ a high within))
    (λ later. signed-within c f first (i ∷ before) items known.1 (omega (arith, from, on)) a later)

-- at an address that the FDE doesn't cover the return address isn't signed
pub signed-covered : (c : Cie) (f : Fde) → fde_fault c f ≡ None → (a : ℕ) → is_signed_in c f a ≡ true → Covers f a
unfolding is_signed_in fde_fault
signed-covered c f none a is = signed-within c f (signed_by_cie c) [] (instructions_of f.program) none (omega arith) a is

-- ---- FDEs in order of address

contains-at : {X : Type 0} (xs : List X) (i : ℕ) (d : X) → i < length xs → Contains xs (get_or xs i d)
contains-at xs i d lt = (i, lt, get_or_default xs i (get_or xs i d) d lt)

-- of two FDEs in the address index, the one at the higher index begins at or after the end of the other
index-apart : (fdes index : List Fde) → IsIndexOf fdes index → CoversOnce fdes → (i j : ℕ) (d f : Fde) → i < j → j < length index
    → get_or index i d ≡ f → f.initial_location + f.address_range ≤ (get_or index j d).initial_location
index-apart fdes index is once i j d f lt within at =
    let g = get_or index j d in
    let i_in : i < length index = omega arith in
    let f_in : Contains index f = subst (λ x. Contains index x) at (contains-at index i d i_in) in
    let g_in : Contains index g = contains-at index j d within in
    let low : f.initial_location ≤ g.initial_location =
    subst (λ x. x.initial_location ≤ g.initial_location) at (is.ordered.sorted i j d (omega arith) within) in
    elim (cases_lt g.initial_location (f.initial_location + f.address_range)) [
      | inl inside ↦
          let some : 0 < g.address_range = is.ordered.some g g_in in
          let same : f ≡ g = once g.initial_location f g (is.from f f_in) (is.from g g_in) (low, inside) (omega arith, omega arith) in
          let offsets : (get_or index i d).offset ≡ (get_or index j d).offset = ap (λ (x : Fde). x.offset) (at ∙ same) in
          absurd (omega (arith, is.ordered.distinct i j d i_in within offsets))
      | inr past ↦ past
    ]

-- ---- the ranges of the first k FDEs

abbrev pub is_signed_here : FrameSection → ℕ → Fde → Bool
is_signed_here s a f = is_signed_by (cie_in s f) f a

-- The ranges are those of the first k FDEs in order of address. All later FDEs begin at their end or above it.
pub record AreSignedUpTo (s : FrameSection) (index : List Fde) (k : ℕ) (ranges : List SignedRange) : Type 0 where
  pub order : AreInOrder 0 ranges
  pub next : (j : ℕ) (d : Fde) → k ≤ j → j < length index → ends_at 0 ranges ≤ (get_or index j d).initial_location
  pub are : (a : ℕ) → has_signed ranges a ≡ list_any (is_signed_here s a) (take k index)

pub signed-begin : (s : FrameSection) (index : List Fde) (ranges : List SignedRange) → ranges ≡ [] → AreSignedUpTo s index 0 ranges
signed-begin s index ranges none =
    subst (λ (l : List SignedRange). AreSignedUpTo s index 0 l) (sym none)
    (record { order = tt; next = λ j d le lt. omega arith; are = λ a. refl })

pub signed-on : (s : FrameSection) (index : List Fde) (k : ℕ) (c : Cie) (f : Fde) (old new : List SignedRange) → IsChecked s
    → IsIndexOf s.fdes index → k < length index → get_or index k f ≡ f → cie_in s f ≡ Some c → AreSignedUpTo s index k old
    → ((a : ℕ) → has_signed new a ≡ (has_signed old a || is_signed_in c f a)) → AreInOrder 0 new
    → ends_at 0 new ≤ f.initial_location + f.address_range → AreSignedUpTo s index (k + 1) new
signed-on s index k c f old new checked is lt at cie so_far pushed order end = record {
  order = order;
  next = λ j d le within.
      let apart = index-apart s.fdes index is (checked-once s checked) k j d f (omega arith) within (get_or_default index k d f lt ∙ at) in
      omega (arith, end, apart);
  are = λ a.
      let here : is_signed_here s a (get_or index k f) ≡ is_signed_in c f a =
      ap (is_signed_here s a) at ∙ ap (λ o. is_signed_by o f a) cie in
      pushed a ∙ (ap (λ b. b || is_signed_in c f a) (so_far.are a)
      ∙ (ap (λ b. list_any (is_signed_here s a) (take k index) || b) (sym here)
      ∙ sym (list_any_more (is_signed_here s a) index k f lt)));
}

pub decide : (b c : Bool) → (b ≡ true → c ≡ true) → (c ≡ true → b ≡ true) → b ≡ c
decide true c onward back = sym (onward refl)
decide false true onward back = back refl
decide false false onward back = refl

-- if the return address is signed at an address by an FDE, the FDE covers the address
pub signed-by-some : (s : FrameSection) → IsChecked s → (f : Fde) → Contains s.fdes f → (a : ℕ) → is_signed_here s a f ≡ true → Covers f a
signed-by-some s checked f among a is =
    let pointed = fde-good s checked f among in
    signed-covered pointed.0 f pointed.3 a (sym (ap (λ o. is_signed_by o f a) pointed.1) ∙ is)

pub signed-done : (s : FrameSection) (index : List Fde) (k : ℕ) (ranges : List SignedRange) → IsChecked s → IsIndexOf s.fdes index
    → length index ≤ k → AreSignedUpTo s index k ranges → (a : ℕ) → has_signed ranges a ≡ is_signed_of s a
signed-done s index k ranges checked is all so_far a =
    so_far.are a ∙ (ap (list_any (is_signed_here s a)) (take_all k index all)
    ∙ decide (list_any (is_signed_here s a) index) (list_any (is_signed_here s a) s.fdes)
    (λ some.
    let (j, f, few, at, here) = Any-from_list_any (is_signed_here s a) index some in
    let (i, i_few, i_at) = is.from f (j, few, at) in
    list_any_at (is_signed_here s a) s.fdes i f i_few (ap (is_signed_here s a) i_at ∙ here))
    (λ some.
    let (j, f, few, at, here) = Any-from_list_any (is_signed_here s a) s.fdes some in
    let covered = signed-by-some s checked f (j, few, at) a here in
    let (i, i_few, i_at) = is.to f (j, few, at) (omega (arith, covered.0, covered.1)) in
    list_any_at (is_signed_here s a) index i f i_few (ap (is_signed_here s a) i_at ∙ here)))
