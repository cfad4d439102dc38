-- An expression has only one depth, only one first fault, and only one list of states.
use Rattle.std.proofs.Math.Logic.{∥∥₁_elim, ∥∥₁_prop}
use Rattle.std.specs.Coded.{Coded-set, coded_ℕ, coded_bool, le_prop}
use Rattle.std.proofs.Common.{◌≡◌, ◌∙◌, ℕ, zero, suc, ◌<◌, ◌≤◌, Bool, List, [], ◌∷◌, length, Option, Some, None, refl, sym, ap, inl, inr}
use Rattle.std.proofs.Common.{arith}
use Rattle.std.specs.Prelude.{slice_get, ◌==◌, if◌then◌else◌}
use Rattle.std.proofs.lemmas.Bool.{cases_order}
use Rattle.std.proofs.lemmas.Option.{slice_get_cases, same_Some}
use Rattle.dw_bytes.specs.declared.target.Target.{Target}
use Rattle.dw_bytes.specs.declared.fault.Fault.{Fault}
use Rattle.dw_bytes.specs.declared.fault.FaultKind.{FaultKind}
use Rattle.dw_bytes.specs.declared.fault.FaultKind.TheVariants as fault
use Rattle.dw_stack.specs.declared.state.Kind.{Kind}
use Rattle.dw_stack.specs.declared.state.Mode.{Mode}
use Rattle.dw_stack.specs.declared.state.State.{State}
use Rattle.dw_stack.specs.Paths.{Placed, IsGood, AreStates, IsDepth}
use Rattle.dw_stack.specs.Faults.{Refuses, rank, IsFirstFault}
use Rattle.dw_stack.specs.Expressions.{IsFaultOf}
use Rattle.dw_stack.specs.FirstFault.{number_of}
use Rattle.dw_stack.proofs.Stable.{mode_stable}

-- ---- the depth

pub one_depth : (kind : Kind) (ops : List Placed) (len d e : ℕ) → IsDepth kind ops len d → IsDepth kind ops len e → d ≡ e
one_depth kind ops len d e here there =
    let low : d ≤ e = ∥∥₁_elim here.touched le_prop (λ t. there.greatest d t) in
    let high : e ≤ d = ∥∥₁_elim there.touched le_prop (λ t. here.greatest e t) in
    omega (arith, low, high)

-- ---- the first fault

abbrev kind_at : ℕ → FaultKind
kind_at n =
    if n == 0 then fault.Unreachable
    else if n == 1 then fault.Mismatch
    else if n == 2 then fault.CertState
    else if n == 3 then fault.NotInFrame
    else if n == 4 then fault.NotAlone
    else if n == 5 then fault.Underflow
    else if n == 6 then fault.TooDeep
    else if n == 7 then fault.TooManyPieces
    else if n == 8 then fault.Backward
    else if n == 9 then fault.TargetNotStart
    else fault.EndsEmpty

abbrev fault_at : FaultKind → ℕ → Fault
fault_at kind at = record { kind = kind; at = at }

module _ (kind : Kind) (ops : List Placed) (len : ℕ) (given : Option (List State)) where
  ranked : (f : FaultKind) (at : ℕ) → Refuses kind ops len given f at → kind_at (rank f) ≡ f
  ranked fault.Unreachable at r = refl
  ranked fault.Mismatch at r = refl
  ranked fault.CertState at r = refl
  ranked fault.NotInFrame at r = refl
  ranked fault.NotAlone at r = refl
  ranked fault.Underflow at r = refl
  ranked fault.TooDeep at r = refl
  ranked fault.TooManyPieces at r = refl
  ranked fault.Backward at r = refl
  ranked fault.TargetNotStart at r = refl
  ranked fault.EndsEmpty at r = refl
  ranked _ at r = let no = r.6 in absurd (cc)

  pub first_same : (f g : Fault) → IsFirstFault kind ops len given f.kind f.at → IsFirstFault kind ops len given g.kind g.at → f ≡ g
  first_same f g first second = elim (cases_order f.at g.at) [
    | inl here ↦ elim (cases_order (rank f.kind) (rank g.kind)) [
      | inl rank_is ↦
          let kinds : f.kind ≡ g.kind = sym (ranked f.kind f.at first.refuses) ∙ (ap kind_at rank_is ∙ ranked g.kind g.at second.refuses) in
          let one : fault_at f.kind f.at ≡ fault_at g.kind f.at = ap (λ (k : FaultKind). fault_at k f.at) kinds in
          let two : fault_at g.kind f.at ≡ fault_at g.kind g.at = ap (λ (n : ℕ). fault_at g.kind n) here in
          one ∙ two
      | inr other ↦ elim other [
        | inl low ↦ absurd (second.first f.kind f.at (inr (here, low)) first.refuses)
        | inr high ↦ absurd (first.first g.kind g.at (inr (sym here, high)) second.refuses)
      ]
    ]
    | inr other ↦ elim other [
      | inl low ↦ absurd (second.first f.kind f.at (inl low) first.refuses)
      | inr high ↦ absurd (first.first g.kind g.at (inl high) second.refuses)
    ]
  ]

pub one_fault : (kind : Kind) (target : Target) (bytes : List ℕ) (given : Option (List State)) (f g : Fault)
    → IsFaultOf kind target bytes given f → IsFaultOf kind target bytes given g → f ≡ g
one_fault kind target bytes given f g first second = elim first [
  | inl unread ↦ elim second [
    | inl again ↦ same_Some f g (sym unread ∙ again)
    | inr rest ↦ elim rest [
      | inl count ↦ let both : Some f ≡ None = sym unread ∙ count.0 in absurd (cc)
      | inr checked ↦ let both : Some f ≡ None = sym unread ∙ checked.0 in absurd (cc)
    ]
  ]
  | inr rest ↦ elim rest [
    | inl count ↦ elim second [
      | inl unread ↦ let both : Some g ≡ None = sym unread ∙ count.0 in absurd (cc)
      | inr other ↦ elim other [
        | inl again ↦ count.2 ∙ sym again.2
        | inr checked ↦ absurd (checked.1 count.1)
      ]
    ]
    | inr checked ↦ elim second [
      | inl unread ↦ let both : Some g ≡ None = sym unread ∙ checked.0 in absurd (cc)
      | inr other ↦ elim other [
        | inl count ↦ absurd (checked.1 count.1)
        | inr again ↦ first_same kind _ _ given f g checked.2 again.2
      ]
    ]
  ]
]

-- ---- the states

abbrev state_of : ℕ → ℕ → Mode → Bool → State
state_of offset height m pieced = record { offset = offset; height = height; mode = m; pieced = pieced }

state_stable : (s t : State) → ∥ s ≡ t ∥₁ → s ≡ t
state_stable s t h =
    let offset : s.offset ≡ t.offset = ∥∥₁_elim h (Coded-set coded_ℕ _ _) (λ e. ap (λ (x : State). x.offset) e) in
    let height : s.height ≡ t.height = ∥∥₁_elim h (Coded-set coded_ℕ _ _) (λ e. ap (λ (x : State). x.height) e) in
    let pieced : s.pieced ≡ t.pieced = ∥∥₁_elim h (Coded-set coded_bool _ _) (λ e. ap (λ (x : State). x.pieced) e) in
    let number : number_of s.mode ≡ number_of t.mode = ∥∥₁_elim h (Coded-set coded_ℕ _ _) (λ e. ap (λ (x : State). number_of x.mode) e) in
    let same : s.mode ≡ t.mode = mode_stable s.mode t.mode number in
    let one : state_of s.offset s.height s.mode s.pieced ≡ state_of t.offset s.height s.mode s.pieced =
    ap (λ (n : ℕ). state_of n s.height s.mode s.pieced) offset in
    let two : state_of t.offset s.height s.mode s.pieced ≡ state_of t.offset t.height s.mode s.pieced =
    ap (λ (n : ℕ). state_of t.offset n s.mode s.pieced) height in
    let three : state_of t.offset t.height s.mode s.pieced ≡ state_of t.offset t.height t.mode s.pieced =
    ap (λ (m : Mode). state_of t.offset t.height m s.pieced) same in
    let four : state_of t.offset t.height t.mode s.pieced ≡ state_of t.offset t.height t.mode t.pieced =
    ap (λ (b : Bool). state_of t.offset t.height t.mode b) pieced in
    one ∙ (two ∙ (three ∙ four))

same_lists : (s t : List State) → length s ≡ length t → ((k : ℕ) (a b : State) → slice_get s k ≡ Some a → slice_get t k ≡ Some b → a ≡ b)
    → s ≡ t
same_lists [] [] long each = refl
same_lists [] (b ∷ t) long each = absurd (omega arith)
same_lists (a ∷ s) [] long each = absurd (omega arith)
same_lists (a ∷ s) (b ∷ t) long each =
    let head = each 0 a b refl refl in
    let tail : s ≡ t = same_lists s t (omega arith) (λ k x y hx hy. each (suc k) x y hx hy) in
    ap (λ (x : State). x ∷ s) head ∙ ap (λ (l : List State). b ∷ l) tail

pub one_certificate : (kind : Kind) (ops : List Placed) (len : ℕ) (s t : List State) → IsGood kind ops len → AreStates kind ops len s
    → AreStates kind ops len t → s ≡ t
one_certificate kind ops len s t good first second = same_lists s t (first.long ∙ sym second.long) each
  where
    within : (l : List State) (k : ℕ) (a : State) → slice_get l k ≡ Some a → k < length l
    within [] k a is = absurd (cc)
    within (x ∷ l) zero a is = omega arith
    within (x ∷ l) (suc k) a is = let rest = within l k a is in omega (arith, rest)

    each : (k : ℕ) (a b : State) → slice_get s k ≡ Some a → slice_get t k ≡ Some b → a ≡ b
    each k a b here there = elim (slice_get_cases ops k).1 [
      | inl found ↦ state_stable a b (∥∥₁_elim (good.each k found.0 found.2) ∥∥₁_prop (λ reached.
          let one = first.each k found.0 reached.0 found.2 reached.1 in
          let two = second.each k found.0 reached.0 found.2 reached.1 in
          ∣ same_Some a b (sym here ∙ (one ∙ (sym two ∙ there))) ∣₁))
      | inr past ↦ let lt = within s k a here in absurd (omega (arith, past.0, lt, first.long))
    ]
