-- If a proof of a statement about checked expressions is only known to exist (`∥ .. ∥₁`), the
-- statement holds.
use Rattle.std.proofs.Math.Logic.{∥∥₁_elim, ∥∥₁_prop}
use mathlib.Core.HLevel.{⊥_prop}
use Rattle.std.specs.Coded.{Coded-set, coded_ℕ, coded_bool, le_prop}
use Rattle.std.proofs.Common.{◌≡◌, ℕ, zero, suc, ◌≤◌, ◌⊎◌, Bool, List, length, Option, Some, None, refl, sym, ap, ◌∙◌, inl, inr, arith}
use Rattle.std.specs.Prelude.{slice_get}
use Rattle.std.proofs.lemmas.Bool.{cases_eq}
use Rattle.std.proofs.lemmas.Option.{same_Some}
use Rattle.dw_bytes.specs.declared.fault.Fault.{Fault}
use Rattle.dw_stack.specs.declared.state.Mode.{Mode}
use Rattle.dw_stack.specs.declared.state.Mode.TheVariants as mode
use Rattle.dw_stack.specs.declared.state.State.{State}
use Rattle.dw_stack.specs.declared.state.StackState.{StackState}
use Rattle.dw_stack.specs.declared.state.Kind.{Kind}
use Rattle.dw_stack.specs.Effects.{effect_of}
use Rattle.dw_stack.specs.States.{at_offset}
use Rattle.dw_stack.specs.Paths.{Placed, place, IsLaidOut, branch_target_of, IsTarget, IsGood, AreStates}
use Rattle.dw_stack.specs.FirstFault.{number_of}
use Rattle.dw_stack.specs.Expressions.{operations_in, reading_fault, Checked, IsChecked}
use Rattle.dw_stack.proofs.Places.{place_inj}
use Rattle.dw_stack.proofs.Encoded.{encoded_of, read_of, laid_out}

mode_of : ℕ → Mode
mode_of zero = mode.Stack
mode_of (suc zero) = mode.Register
mode_of (suc (suc zero)) = mode.Value
mode_of _ = mode.AfterPiece

mode_back : (m : Mode) → mode_of (number_of m) ≡ m
unfolding mode_of
mode_back mode.Stack = refl
mode_back mode.Register = refl
mode_back mode.Value = refl
mode_back mode.AfterPiece = refl

pub mode_stable : (m n : Mode) → number_of m ≡ number_of n → m ≡ n
mode_stable m n is = sym (mode_back m) ∙ (ap mode_of is ∙ mode_back n)

abbrev made : ℕ → Mode → Bool → StackState
made height m pieced = record { height = height; mode = m; pieced = pieced }

-- two states are equal if `∥ s ≡ t ∥₁` holds
state_stable : (s t : StackState) → ∥ s ≡ t ∥₁ → s ≡ t
state_stable s t h =
    let height : s.height ≡ t.height = ∥∥₁_elim h (Coded-set coded_ℕ _ _) (λ e. ap (λ (x : StackState). x.height) e) in
    let pieced : s.pieced ≡ t.pieced = ∥∥₁_elim h (Coded-set coded_bool _ _) (λ e. ap (λ (x : StackState). x.pieced) e) in
    let number : number_of s.mode ≡ number_of t.mode =
    ∥∥₁_elim h (Coded-set coded_ℕ _ _) (λ e. ap (λ (x : StackState). number_of x.mode) e) in
    let same : s.mode ≡ t.mode = mode_stable s.mode t.mode number in
    let first : made s.height s.mode s.pieced ≡ made t.height s.mode s.pieced = ap (λ (h : ℕ). made h s.mode s.pieced) height in
    let second : made t.height s.mode s.pieced ≡ made t.height t.mode s.pieced = ap (λ (m : Mode). made t.height m s.pieced) same in
    let third : made t.height t.mode s.pieced ≡ made t.height t.mode t.pieced = ap (λ (b : Bool). made t.height t.mode b) pieced in
    first ∙ (second ∙ third)

-- the state without its offset
abbrev state_in : State → StackState
state_in s = made s.height s.mode s.pieced

located_stable : (s t : State) → ∥ s ≡ t ∥₁ → s ≡ t
located_stable s t h =
    let offset : s.offset ≡ t.offset = ∥∥₁_elim h (Coded-set coded_ℕ _ _) (λ e. ap (λ (x : State). x.offset) e) in
    let state : state_in s ≡ state_in t = state_stable (state_in s) (state_in t)
    (∥∥₁_elim h ∥∥₁_prop (λ e. ∣ ap (λ (x : State). state_in x) e ∣₁)) in
    let moved : at_offset s.offset (state_in s) ≡ at_offset t.offset (state_in s) = ap (λ (n : ℕ). at_offset n (state_in s)) offset in
    let changed : at_offset t.offset (state_in s) ≡ at_offset t.offset (state_in t) = ap (λ (x : StackState). at_offset t.offset x) state in
    moved ∙ changed

found_stable : (o : Option State) (t : State) → ∥ o ≡ Some t ∥₁ → o ≡ Some t
found_stable None t h = absurd (∥∥₁_elim h ⊥_prop (λ e. cc))
found_stable (Some s) t h = ap (λ (x : State). Some x) (located_stable s t (∥∥₁_elim h ∥∥₁_prop (λ e. ∣ same_Some s t e ∣₁)))

-- `AreStates` holds if `∥ AreStates .. ∥₁` holds
pub states_stable : (kind : Kind) (ops : List Placed) (len : ℕ) (states : List State) → ∥ AreStates kind ops len states ∥₁
    → AreStates kind ops len states
states_stable kind ops len states h = record {
  long = ∥∥₁_elim h (Coded-set coded_ℕ _ _) (λ are. are.long);
  each = λ k x s stands r. found_stable (slice_get states k) (at_offset x.0 s) (∥∥₁_elim h ∥∥₁_prop (λ are. ∣ are.each k x s stands r ∣₁));
}

-- either an operation or the end is at offset t, or neither is
pub find_place : (ops : List Placed) (len t n : ℕ) → ((j : ℕ) × (j ≤ n) × (place ops len j ≡ t))
    ⊎ ((j : ℕ) → j ≤ n → place ops len j ≡ t → ⊥)
find_place ops len t zero = elim (cases_eq (place ops len 0) t) [
  | inl here ↦ inl (0, omega arith, here)
  | inr other ↦ inr (λ j le e. let first : j ≡ 0 = omega arith in other (ap (place ops len) (sym first) ∙ e))
]
find_place ops len t (suc n) = elim (find_place ops len t n) [
  | inl found ↦ inl (found.0, omega (arith, found.1), found.2)
  | inr none ↦ elim (cases_eq (place ops len (suc n)) t) [
    | inl here ↦ inl (suc n, omega arith, here)
    | inr other ↦ inr (λ j le e. elim (cases_eq j (suc n)) [
      | inl last ↦ other (ap (place ops len) (sym last) ∙ e)
      | inr before ↦ none j (omega arith) e
    ])
  ]
]

module _ (kind : Kind) (ops : List Placed) (len : ℕ) (laid : IsLaidOut ops len) (h : ∥ IsGood kind ops len ∥₁) where
  target_stable : (k t : ℕ) (x : Placed) → slice_get ops k ≡ Some x → branch_target_of ops len k (effect_of x.1) ≡ Some t
      → IsTarget ops len k t
  target_stable k t x stands to = elim (find_place ops len t (length ops)) [
    | inl found ↦ record {
      number = found.0;
      later = ∥∥₁_elim h le_prop (λ g.
          let target = g.targets k t x stands to in
          let same : target.number ≡ found.0 = place_inj ops len laid target.number found.0 target.within found.1
          (target.there ∙ sym found.2) in
          omega (arith, target.later, same));
      within = found.1;
      there = found.2;
    }
    | inr none ↦ absurd (∥∥₁_elim h ⊥_prop (λ g. let target = g.targets k t x stands to in none target.number target.within target.there))
  ]

  pub good_stable : IsGood kind ops len
  good_stable = record {
    allowed = λ k x stands. ∥∥₁_elim h (Coded-set coded_bool _ _) (λ g. g.allowed k x stands);
    alone = λ k x s stands r. ∥∥₁_elim h (Coded-set coded_bool _ _) (λ g. g.alone k x s stands r);
    needs = λ k x s stands r. ∥∥₁_elim h le_prop (λ g. g.needs k x s stands r);
    limit = λ k x s stands r. ∥∥₁_elim h le_prop (λ g. g.limit k x s stands r);
    one = λ b s t r q. state_stable s t (∥∥₁_elim h ∥∥₁_prop (λ g. ∣ g.one b s t r q ∣₁));
    each = λ k x stands. ∥∥₁_elim h ∥∥₁_prop (λ g. g.each k x stands);
    ahead = λ k z x stands jump back. ∥∥₁_elim h ⊥_prop (λ g. g.ahead k z x stands jump back);
    targets = λ k t x stands to. target_stable k t x stands to;
    pieces = ∥∥₁_elim h le_prop (λ g. g.pieces);
    ends = λ s r. ∥∥₁_elim h (Coded-set coded_bool _ _) (λ g. g.ends s r);
  }

module _ (c : Checked) (h : ∥ IsChecked c ∥₁) where
  read_stable : (o : Option Fault) → reading_fault c.target c.bytes ≡ o → reading_fault c.target c.bytes ≡ None
  read_stable None is = is
  read_stable (Some f) is = absurd (∥∥₁_elim h ⊥_prop
      (λ checked. let none = read_of c.target c.bytes (operations_in c.target c.bytes) checked.good.encoded in
      let other : None ≡ Some f = sym none ∙ is in cc))

  pub checked_stable : IsChecked c
  checked_stable =
      let encoded = encoded_of c.target c.bytes (read_stable (reading_fault c.target c.bytes) refl) in
      let laid = laid_out c.target c.bytes (operations_in c.target c.bytes) encoded in
      record {
        good = record {
          encoded = encoded;
          good = good_stable c.kind (operations_in c.target c.bytes) (length c.bytes) laid
              (∥∥₁_elim h ∥∥₁_prop (λ checked. ∣ checked.good.good ∣₁));
        };
        depth = record {
          touched = ∥∥₁_elim h ∥∥₁_prop (λ checked. checked.depth.touched);
          greatest = λ n touches. ∥∥₁_elim h le_prop (λ checked. checked.depth.greatest n touches);
        };
        count = ∥∥₁_elim h (Coded-set coded_ℕ _ _) (λ checked. checked.count);
      }
