-- The questions about an expression, in order. Either the answer to all is yes and the expression
-- is good, or the first question answered with no gives the first fault. If the caller passed
-- states (`given`), an operation's state is compared with the passed one before the operation is
-- checked.
use Rattle.std.proofs.Common.{◌≡◌, ◌≢◌, ◌∙◌, ◌⊎◌, ℕ, ℤ, pos, negsuc, zero, suc, ◌+◌, ◌<◌, ◌≤◌, Bool, true, false, not, cond, map, List, []}
use Rattle.std.proofs.Common.{◌∷◌, ◌++◌, length, get_or, Option, Some, None, refl, sym, ap, subst, inl, inr, arith, length-append}
use Rattle.std.specs.Prelude.{slice_get, slice_set, slice_index_or, replicate, find, ◌==◌}
use Rattle.std.specs.Option.{option_or, option_map}
use Rattle.std.specs.List.{list_all}
use Rattle.std.proofs.lemmas.List.{length-replicate, get_or-replicate, append_assoc}
use Rattle.std.proofs.lemmas.Option.{slice_get_within, slice_get_cases, same_Some}
use Rattle.std.proofs.lemmas.Bool.{cases_eq}
use Rattle.dw_bytes.specs.declared.target.Target.{Target}
use Rattle.dw_bytes.specs.declared.fault.Fault.{Fault}
use Rattle.dw_bytes.specs.declared.fault.FaultKind.{FaultKind}
use Rattle.dw_bytes.specs.declared.fault.FaultKind.TheVariants as fault
use Rattle.dw_stack.specs.declared.effect.StackEffect.{StackEffect}
use Rattle.dw_stack.specs.declared.operation_check.OutState.{OutState}
use Rattle.dw_stack.specs.declared.state.State.{State}
use Rattle.dw_stack.specs.declared.state.StackState.{StackState}
use Rattle.dw_stack.specs.declared.state.Kind.{Kind}
use Rattle.dw_stack.specs.declared.step.Done.{Done}
use Rattle.dw_stack.specs.declared.in_state.InState.{InState}
use Rattle.dw_stack.specs.declared.in_state.InState.TheVariants.{Unreached, Known, Conflict}
use Rattle.dw_stack.specs.Effects.{effect_of}
use Rattle.dw_stack.specs.States.{start_of, height_after, next_mode, has_result, HasResult, at_offset}
use Rattle.dw_stack.specs.Paths.{Placed, place, jump_target, IsLaidOut, is_piece, pieces_before, IsGood, AreStates, IsDepth}
use Rattle.dw_stack.specs.Faults.{FitsCertificate, verdicts, is_ahead, is_start, passes, first_failed, IsFirstFault, KnowsOnly}
use Rattle.dw_stack.specs.OperationCheck.{IsEffectAt, TargetIs, Checked, Objects}
use Rattle.dw_stack.specs.InStates.{Merges, Receives, ReceivesIf, ReceivesAt, PassesOn, Stepped}
use Rattle.dw_stack.specs.Expressions.{operations_in, reading_fault, IsGoodExpression, IsFaultOf}
use Rattle.dw_stack.specs.FirstFault.{states_to, same_state, Question, else_fault, first_no, asked_at, asked_of, asked_last, asked_from}
use Rattle.dw_stack.specs.FirstFault.{first_fault, expression_fault}
use Rattle.dw_stack.proofs.Places.{place_of_some, later_place}
use Rattle.dw_stack.proofs.paths.Routes.{Comes}
use Rattle.dw_stack.proofs.paths.Describes.{Describes}
use Rattle.dw_stack.proofs.Checking.{all_passed, checked}
use Rattle.dw_stack.proofs.Walks.{Walked, walked_start, walked_step}
use Rattle.dw_stack.proofs.Verdicts.{step_fault, objects_fault, end_not_nothing, end_mismatch, end_empty, end_good, end_given, end_states}
use Rattle.dw_stack.proofs.Verdicts.{end_depth}
use Rattle.dw_stack.proofs.Encoded.{encoded_of, laid_if_read}
use Rattle.dw_stack.proofs.paths.InStates.{Has, states_come, come_states}
use Rattle.dw_stack.proofs.Telling.{bool_tells, same_tells, others_tell, start_tells}

-- ---- which `InState` describes the set of states with which paths arrive

arrived_none : (a : InState) (P : StackState → Type 0) → Describes a P → ((t : StackState) → P t → ⊥) → a ≡ Unreached
arrived_none Unreached P d none = refl
arrived_none (Known s) P d none = absurd (none s d.0)
arrived_none Conflict P d none = absurd (none d.0 d.2)

arrived_one : (a : InState) (P : StackState → Type 0) (s : StackState) → Describes a P → P s → ((t : StackState) → P t → t ≡ s)
    → a ≡ Known s
arrived_one Unreached P s d here one = absurd (d s here)
arrived_one (Known t) P s d here one = ap (λ (x : StackState). Known x) (one t d.0)
arrived_one Conflict P s d here one = absurd (d.4 (one d.0 d.2 ∙ sym (one d.1 d.3)))

arrived_many : (a : InState) (P : StackState → Type 0) (s t : StackState) → Describes a P → P s → P t → s ≢ t → a ≡ Conflict
arrived_many Unreached P s t d here there other = absurd (d s here)
arrived_many (Known u) P s t d here there other = absurd (other (d.1 s here ∙ sym (d.1 t there)))
arrived_many Conflict P s t d here there other = refl

-- ---- one step

merged : (a : InState) (s : StackState) → (b : InState) × Merges a s b
merged Unreached s = (Known s, refl)
merged (Known t) s = elim (same_tells t s) [
  | inl same ↦ (Known t, inl (same.1, refl))
  | inr other ↦ (Conflict, inr (other.1, refl))
]
merged Conflict s = (Conflict, refl)

received : (old : List InState) (j : ℕ) (s : StackState) → (new : List InState) × Receives old j s new
received old j s =
    let m = merged (slice_index_or old j Unreached) s in
    (slice_set old j m.0, record { in_state = m.0; merges = m.1; set = refl })

received_if : (b : Bool) (old : List InState) (j : ℕ) (s : StackState) → (new : List InState) × ReceivesIf b old j s new
received_if true old j s = received old j s
received_if false old j s = (old, refl)

received_at : (o : Option ℕ) (old : List InState) (s : StackState) → (new : List InState) × ReceivesAt o old s new
received_at None old s = (old, refl)
received_at (Some j) old s = received old j s

passed_on : (old : List InState) (i : ℕ) (out : OutState) → (new : List InState) × PassesOn old i out new
passed_on old i out =
    let mid = received_if out.falls_through old (i + 1) out.state in
    let new = received_at out.target mid.0 out.state in
    (new.0, record { mid = mid.0; next = mid.1; target = new.1 })

-- ---- the questions

abbrev fault_of : FaultKind → ℕ → Fault
fault_of kind at = record { kind = kind; at = at }

answered_yes : (b : Bool) (f : FaultKind) (at : ℕ) (rest : List Question) → b ≡ true → first_no (else_fault b f at ∷ rest) ≡ first_no rest
answered_yes b f at rest is = ap (λ (c : Bool). first_no (else_fault c f at ∷ rest)) is

answered_no : (b : Bool) (f : FaultKind) (at : ℕ) (rest : List Question) → b ≡ false
    → first_no (else_fault b f at ∷ rest) ≡ Some (fault_of f at)
answered_no b f at rest is = ap (λ (c : Bool). first_no (else_fault c f at ∷ rest)) is

-- if each check in a list is asked as a question, the first question answered with no gives the
-- fault of the first check that fails
first_no-map : (p : FaultKind → Bool) (at : ℕ) (fs : List FaultKind)
    → first_no (map (λ f. else_fault (p f) f at) fs) ≡ option_map (λ f. fault_of f at) (find (λ f. not (p f)) fs)
first_no-map p at [] = refl
first_no-map p at (f ∷ fs) = by (p f) (first_no-map p at fs)
  where
    by : (b : Bool) → first_no (map (λ g. else_fault (p g) g at) fs) ≡ option_map (λ g. fault_of g at) (find (λ g. not (p g)) fs)
        → first_no (else_fault b f at ∷ map (λ g. else_fault (p g) g at) fs) ≡ option_map (λ g. fault_of g at)
        (cond (not b) (Some f) (find (λ g. not (p g)) fs))
    by true rest = rest
    by false rest = refl

first_no-append : (xs ys : List Question) → first_no (xs ++ ys) ≡ option_or (first_no xs) (first_no ys)
first_no-append [] ys = refl
first_no-append ((true, f) ∷ xs) ys = first_no-append xs ys
first_no-append ((false, f) ∷ xs) ys = refl

pub at_seam : (before left : List Placed) (x : Placed) → slice_get (before ++ x ∷ left) (length before) ≡ Some x
at_seam [] left x = refl
at_seam (y ∷ before) left x = at_seam before left x

-- ---- the states that the caller passed

abbrev placed_at : ℕ → StackState → State
placed_at at s = at_offset at s

abbrev stack_of : State → StackState
stack_of t = record { height = t.height; mode = t.mode; pieced = t.pieced }

same_placed : (t : State) (at : ℕ) (s : StackState) → (t ≡ at_offset at s) ⊎ (t ≢ at_offset at s)
same_placed t at s = elim (same_tells (stack_of t) s) [
  | inr other ↦ inr (λ e. other.1 (ap stack_of e))
  | inl same ↦ elim (cases_eq t.offset at) [
    | inr other ↦ inr (λ e. other (ap (λ (u : State). u.offset) e))
    | inl here ↦
        let one : placed_at t.offset (stack_of t) ≡ placed_at at (stack_of t) = ap (λ (n : ℕ). placed_at n (stack_of t)) here in
        let two : placed_at at (stack_of t) ≡ placed_at at s = ap (λ (u : StackState). placed_at at u) same.1 in
        inl (one ∙ two)
  ]
]

-- either the caller passed no states, or passed the right state for this operation, or passed
-- states without the right state for this operation
given_tells : (ops : List Placed) (len : ℕ) (given : Option (List State)) (k : ℕ) (s : StackState)
    → FitsCertificate ops len given k s ⊎ ((FitsCertificate ops len given k s → ⊥) × (given ≡ None → ⊥))
given_tells ops len None k s = inl tt
given_tells ops len (Some states) k s = elim (slice_get_cases states k).1 [
  | inr past ↦ inr (λ is. let lt = slice_get_within states k (at_offset (place ops len k) s) is in omega (arith, lt, past.0), λ none. cc)
  | inl found ↦ elim (same_placed found.0 (place ops len k) s) [
    | inl same ↦ inl (found.2 ∙ ap (λ (t : State). Some t) same)
    | inr other ↦ inr (λ is. other (same_Some found.0 (at_offset (place ops len k) s) (sym found.2 ∙ is)), λ none. cc)
  ]
]

-- operations that are good (`IsGood`), with their states and their depth; if the caller passed
-- states, they are right
pub record Certified (kind : Kind) (ops : List Placed) (len : ℕ) (given : Option (List State)) : Type 0 where
  pub good : IsGood kind ops len
  pub known : KnowsOnly kind ops len given
  pub states : List State
  pub are : AreStates kind ops len states
  pub depth : ℕ
  pub deepest : IsDepth kind ops len depth

module _ (kind : Kind) (ops : List Placed) (len : ℕ) (laid : IsLaidOut ops len) where
  -- a branch that isn't backward and leads to the start of an operation or to the end has a target
  target_there : (k : ℕ) → k < length ops → (o : Option ℤ) → is_ahead (place ops len (k + 1)) o ≡ true
      → is_start ops len (jump_target (place ops len (k + 1)) o) ≡ true → (t : Option ℕ) × TargetIs ops len k o t
  target_there k lt None ahead start = (None, tt)
  target_there k lt (Some (negsuc n)) ahead start = absurd (cc)
  target_there k lt (Some (pos n)) ahead start = elim (start_tells ops len (place ops len (k + 1) + n)) [
    | inl found ↦ (
      Some found.1,
      record {
        later = later_place ops len laid k found.1 lt (omega (arith, found.3));
        within = found.2;
        there = ap (λ (t : ℕ). Some t) (sym found.3);
      },
    )
    | inr none ↦ let no = none.0 in absurd (cc)
  ]

  abbrev Asked : ℕ → Placed → StackState → Type 0
  Asked k x s = ((first_no (asked_at kind ops len k (effect_of x.1) s x.0) ≡ None) × (out : OutState)
      × Checked kind ops len k (pieces_before ops k) s out)
      ⊎ ((f : FaultKind) × (first_no (asked_at kind ops len k (effect_of x.1) s x.0) ≡ Some (fault_of f x.0))
      × Objects kind ops len k (pieces_before ops k) s f)

  module _ (k : ℕ) (x : Placed) (s : StackState) (lt : k < length ops) (stands : slice_get ops k ≡ Some x) where
    abbrev e : StackEffect
    e = effect_of x.1

    abbrev n : ℕ
    n = pieces_before ops k

    at : IsEffectAt ops k (effect_of x.1)
    at = record { placed = x; stands = stands; is = refl }

    abbrev checked_by : FaultKind → Bool
    checked_by = passes kind ops len k n e s

    questions : first_no (asked_at kind ops len k e s x.0) ≡ option_map (λ f. fault_of f x.0) (first_failed checked_by)
    questions = first_no-map checked_by x.0 verdicts

    asked : Asked k x s
    asked = by (first_failed checked_by) refl
      where
        by : (o : Option FaultKind) → first_failed checked_by ≡ o → Asked k x s
        by (Some f) is = inr (f, questions ∙ ap (option_map (λ g. fault_of g x.0)) is, record { placed = x; stands = stands; first = is })
        by None is =
            let all = all_passed kind ops len k n s e is in
            let target = target_there k lt e.jump all.1 all.2 in
            let height : ℕ = height_after e s in
            let out : OutState = record {
              state = next_mode e.role height s.pieced;
              height = height;
              piece = is_piece e.role;
              falls_through = e.falls_through;
              target = target.0;
            } in
            inl (
              questions ∙ ap (option_map (λ g. fault_of g x.0)) is,
              out,
              checked kind ops len k n s e at height all.0 target.0 out target.1 refl refl refl refl refl,
            )

  module _ (given : Option (List State)) where
    -- Either the operations are good, or there is a first fault. If the caller passed no states,
    -- then o, the result of the questions, is `None` or that fault.
    abbrev Named : Option Fault → Type 0
    Named o = ((given ≡ None → o ≡ None) × Certified kind ops len given)
        ⊎ ((f : FaultKind) × (a : ℕ) × (given ≡ None → o ≡ Some (fault_of f a)) × IsFirstFault kind ops len given f a)

    named_by : (o p : Option Fault) → o ≡ p → Named p → Named o
    named_by o p same named = elim named [
      | inl good ↦ inl (λ none. same ∙ good.0 none, good.1)
      | inr bad ↦ inr
          (bad.0, bad.1, λ none. same ∙ bad.2 none, bad.3)
    ]

    module _ (i : ℕ) (states : List State) (in_states : List InState) (depth pieces : ℕ)
        (w : Walked kind ops len given i states in_states depth pieces) (le : i ≤ length ops) (l : List StackState)
        (list_is : states_to kind ops len i ≡ l) where
      comes : (t : StackState) → Has l t → Comes kind ops len i (place ops len i) t
      comes t h = states_come kind ops len laid i t le (subst (λ (m : List StackState). Has m t) (sym list_is) h)

      placed_in_there : (t : StackState) → Comes kind ops len i (place ops len i) t → Has l t
      placed_in_there t c = subst (λ (m : List StackState). Has m t) list_is (come_states kind ops len laid i t le c)

      nothing_there : l ≡ [] → get_or in_states i Unreached ≡ Unreached
      nothing_there is = arrived_none (get_or in_states i Unreached) (Comes kind ops len i (place ops len i))
          (w.described i (omega arith) le) (λ t c. subst (λ (m : List StackState). Has m t) is (placed_in_there t c))

      one_there : (s : StackState) (others : List StackState) → l ≡ s ∷ others → ((t : StackState) → Has others t → t ≡ s)
          → get_or in_states i Unreached ≡ Known s
      one_there s others is same = arrived_one (get_or in_states i Unreached) (Comes kind ops len i (place ops len i)) s
          (w.described i (omega arith) le) (comes s (subst (λ (m : List StackState). Has m s) (sym is) (inl refl)))
          (λ t c. elim (subst (λ (m : List StackState). Has m t) is (placed_in_there t c))
          [ inl here ↦ sym here | inr later ↦ same t later ])

      many_there : (s t : StackState) (others : List StackState) → l ≡ s ∷ others → Has others t → s ≢ t
          → get_or in_states i Unreached ≡ Conflict
      many_there s t others is there other = arrived_many (get_or in_states i Unreached) (Comes kind ops len i (place ops len i)) s t
          (w.described i (omega arith) le) (comes s (subst (λ (m : List StackState). Has m s) (sym is) (inl refl)))
          (comes t (subst (λ (m : List StackState). Has m t) (sym is) (inr there))) other

    walk : (left : List Placed) (i : ℕ) (before : List Placed) (states : List State) (in_states : List InState) (depth pieces : ℕ)
        → before ++ left ≡ ops → length before ≡ i → Walked kind ops len given i states in_states depth pieces
        → Named (first_no (asked_from kind ops len i left))
    walk [] i before states in_states depth pieces parts count w = at_end (states_to kind ops len i) refl
      where
        all : i ≡ length ops
        all = let long = ap length parts in let both = length-append before [] in omega (arith, long, both, count)

        here : (a : InState) → get_or in_states i Unreached ≡ a → get_or in_states (length ops) Unreached ≡ a
        here a is = ap (λ (n : ℕ). get_or in_states n Unreached) (sym all) ∙ is

        certified : (s : StackState) → get_or in_states (length ops) Unreached ≡ Known s → HasResult kind (length ops == 0) s
            → Certified kind ops len given
        certified s one result = record {
          good = end_good kind ops len laid given i all states in_states depth pieces w s one result;
          known = record { each = end_given kind ops len laid given i all states in_states depth pieces w };
          states = states;
          are = end_states kind ops len laid given i all states in_states depth pieces w;
          depth = depth;
          deepest = end_depth kind ops len laid given i all states in_states depth pieces w;
        }

        at_end : (l : List StackState) → states_to kind ops len i ≡ l → Named (first_no (asked_last kind ops len l))
        at_end [] is = absurd (end_not_nothing kind ops len laid given i all states in_states depth pieces w
            (here Unreached (nothing_there i states in_states depth pieces w (omega (arith, all)) [] is refl)))
        at_end (s ∷ others) is = elim (others_tell s others) [
          | inr mixed ↦ inr (
            fault.Mismatch,
            len,
            λ none. answered_no (list_all (same_state s) others) fault.Mismatch len _ mixed.0,
            end_mismatch kind ops len laid given i all states in_states depth pieces w
                (here Conflict (many_there i states in_states depth pieces w (omega (arith, all))
                (s ∷ others) is s mixed.1 others refl mixed.2 mixed.3)),
          )
          | inl same ↦
              let one = here (Known s) (one_there i states in_states depth pieces w (omega (arith, all))
              (s ∷ others) is s others refl same.1) in
              let first = answered_yes (list_all (same_state s) others) fault.Mismatch len
              (else_fault (has_result kind s.mode (length ops == 0) s.pieced s.height) fault.EndsEmpty len ∷ []) same.0 in
              elim (bool_tells (has_result kind s.mode (length ops == 0) s.pieced s.height)) [
                | inl has ↦ inl (
                  λ none. first ∙ answered_yes
                      (has_result kind s.mode (length ops == 0) s.pieced s.height) fault.EndsEmpty len [] has.0,
                  certified s one has.1,
                )
                | inr bad ↦ inr (
                  fault.EndsEmpty,
                  len,
                  λ none. first
                      ∙ answered_no (has_result kind s.mode (length ops == 0) s.pieced s.height) fault.EndsEmpty len [] bad.0,
                  end_empty kind ops len laid given i all states in_states depth pieces w s one bad.1,
                )
              ]
        ]
    walk (x ∷ left) i before states in_states depth pieces parts count w =
        at_step (states_to kind ops len i) refl (λ more new deep many next. walk left (i + 1) (before ++ x ∷ []) more new deep many
        (append_assoc before (x ∷ []) left ∙ parts) (let long = length-append before (x ∷ []) in omega (arith, long, count)) next)
      where
        stands : slice_get ops i ≡ Some x
        stands = ap (slice_get ops) (sym count) ∙ (ap (λ (xs : List Placed). slice_get xs (length before)) (sym parts)
            ∙ at_seam before left x)

        lt : i < length ops
        lt = slice_get_within ops i x stands

        here : (f : FaultKind) → IsFirstFault kind ops len given f (place ops len i) → IsFirstFault kind ops len given f x.0
        here f first = subst (λ (n : ℕ). IsFirstFault kind ops len given f n) (place_of_some ops len i x stands) first

        at_step : (l : List StackState) → states_to kind ops len i ≡ l
            → ((more : List State) (new : List InState) (deep many : ℕ) → Walked kind ops len given (i + 1) more new deep many
            → Named (first_no (asked_from kind ops len (i + 1) left)))
            → Named (first_no (asked_of kind ops len i x l ++ asked_from kind ops len (i + 1) left))
        at_step [] is on = inr (
          fault.Unreachable,
          x.0,
          λ none. refl,
          here fault.Unreachable (step_fault kind ops len laid given i states in_states depth pieces w fault.Unreachable lt
              (nothing_there i states in_states depth pieces w (omega (arith, lt)) [] is refl)),
        )
        at_step (s ∷ others) is on = elim (others_tell s others) [
          | inr mixed ↦ inr (
            fault.Mismatch,
            x.0,
            λ none. answered_no (list_all (same_state s) others) fault.Mismatch x.0 _ mixed.0,
            here fault.Mismatch (step_fault kind ops len laid given i states in_states depth pieces w fault.Mismatch lt
                (many_there i states in_states depth pieces w (omega (arith, lt)) (s ∷ others) is s mixed.1 others refl mixed.2 mixed.3)),
          )
          | inl same ↦
              let one = one_there i states in_states depth pieces w (omega (arith, lt)) (s ∷ others) is s others refl same.1 in
              let first : first_no (asked_of kind ops len i x (s ∷ others) ++ asked_from kind ops len (i + 1) left) ≡ option_or
              (first_no (asked_at kind ops len i (effect_of x.1) s x.0)) (first_no (asked_from kind ops len (i + 1) left)) =
              answered_yes (list_all (same_state s) others) fault.Mismatch x.0
              (asked_at kind ops len i (effect_of x.1) s x.0 ++ asked_from kind ops len (i + 1) left) same.0
              ∙ first_no-append (asked_at kind ops len i (effect_of x.1) s x.0) (asked_from kind ops len (i + 1) left) in
              elim (given_tells ops len given i s) [
                | inr other ↦ inr (
                  fault.CertState,
                  x.0,
                  λ none. absurd (other.1 none),
                  here fault.CertState (step_fault kind ops len laid given i states in_states depth pieces w fault.CertState lt
                      (s, one, other.0)),
                )
                | inl known ↦
                    elim (asked i x s lt stands) [
                      | inr bad ↦ inr (
                        bad.0,
                        x.0,
                        λ none. first
                            ∙ ap (λ (o : Option Fault). option_or o (first_no (asked_from kind ops len (i + 1) left))) bad.1,
                        here bad.0 (objects_fault kind ops len laid given i states in_states depth pieces w bad.0 s lt one known
                            (subst (λ (n : ℕ). Objects kind ops len i n s bad.0) (sym w.counted) bad.2)),
                      )
                      | inl fine ↦
                          let out : OutState = fine.1 in
                          let done : Done = record { state = s; height = out.height; piece = out.piece } in
                          let new = passed_on in_states i out in
                          let stepped : Stepped kind ops len given i pieces in_states done new.0 =
                          record {
                            out = out;
                            one = one;
                            given_is = known;
                            checked = subst (λ (n : ℕ). Checked kind ops len i n s out)
                                (sym w.counted) fine.2;
                            height = refl;
                            piece = refl;
                            passes = new.1;
                          } in
                          named_by (first_no (asked_of kind ops len i x (s ∷ others) ++ asked_from kind ops len (i + 1) left))
                          (first_no (asked_from kind ops len (i + 1) left))
                          (first ∙ ap (λ (o : Option Fault). option_or o (first_no (asked_from kind ops len (i + 1) left))) fine.0)
                          (on _ new.0 _ _ (walked_step kind ops len laid given i states in_states new.0 depth pieces done lt w stepped))
                    ]
              ]
        ]

    pub named : Named (first_fault kind ops len)
    unfolding first_fault
    named =
        let first : List InState = Known (start_of kind) ∷ replicate (length ops) Unreached in
        walk ops 0 [] [] first (start_of kind).height 0 refl refl
        (walked_start kind ops len laid given first (wide (length ops)) refl (λ j above le. others j above le))
      where
        wide : (n : ℕ) → length (Known (start_of kind) ∷ replicate n Unreached) ≡ n + 1
        wide n = let long = length-replicate n Unreached in omega (arith, long)

        others : (j : ℕ) → 0 < j → j ≤ length ops → get_or (Known (start_of kind) ∷ replicate (length ops) Unreached) j Unreached
            ≡ Unreached
        others zero above le = absurd (omega arith)
        others (suc j) above le = get_or-replicate (length ops) j Unreached Unreached (omega arith)

-- either the questions about a whole expression give no fault and it is good, or they give its
-- first fault
pub named_expression : (kind : Kind) (target : Target) (bytes : List ℕ)
    → ((expression_fault kind target bytes ≡ None) × IsGoodExpression kind target bytes)
    ⊎ ((f : Fault) × (expression_fault kind target bytes ≡ Some f) × IsFaultOf kind target bytes None f)
unfolding expression_fault
named_expression kind target bytes = by_reading (reading_fault target bytes) refl
  where
    by_reading : (o : Option Fault) → reading_fault target bytes ≡ o
        → ((option_or (reading_fault target bytes) (first_fault kind (operations_in target bytes) (length bytes)) ≡ None)
        × IsGoodExpression kind target bytes) ⊎ ((f : Fault)
        × (option_or (reading_fault target bytes) (first_fault kind (operations_in target bytes) (length bytes)) ≡ Some f)
        × IsFaultOf kind target bytes None f)
    by_reading (Some f) is =
        inr (f, ap (λ (o : Option Fault). option_or o (first_fault kind (operations_in target bytes) (length bytes))) is, inl is)
    by_reading None is =
        let then = ap (λ (o : Option Fault). option_or o (first_fault kind (operations_in target bytes) (length bytes))) is in
        elim (named kind (operations_in target bytes) (length bytes) (laid_if_read target bytes is) None) [
          | inl good ↦ inl (then ∙ good.0 refl, record { encoded = encoded_of target bytes is; good = good.1.good })
          | inr bad ↦ inr (fault_of bad.0 bad.1, then ∙ bad.2 refl, inr (inr (is, (λ other. other), bad.3)))
        ]
