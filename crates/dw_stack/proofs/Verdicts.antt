-- What follows from the pass over the operations: either the operations are good, or there is a
-- first fault.
use Rattle.std.proofs.Math.Logic.{∥∥₁_elim}
use mathlib.Core.HLevel.{⊥_prop}
use Rattle.std.proofs.Common.{◌≡◌, ℕ, ℤ, negsuc, zero, suc, ◌+◌, ◌<◌, ◌≤◌, ◌⊎◌, true, List, length, get_or, Option, Some, None, refl, sym}
use Rattle.std.proofs.Common.{ap, ◌∙◌, subst, inl, inr, arith, IsTrue}
use Rattle.std.specs.Prelude.{slice_get, ◌==◌}
use Rattle.std.proofs.lemmas.List.Sums.{count_by_more_yes}
use Rattle.std.proofs.lemmas.Option.{get_or_from_slice_get}
use Rattle.std.proofs.lemmas.Bool.{cases_lt, le-leb}
use Rattle.std.proofs.lemmas.Option.{slice_get_within, same_Some, slice_get_cases}
use Rattle.dw_stack.specs.Paths.{Placed}
use Rattle.dw_ops.specs.Operations.{Operation, skip}
use Rattle.dw_stack.specs.declared.operation_check.TheConstants.{MAX_HEIGHT, MAX_PIECES}
use Rattle.dw_stack.specs.declared.in_state.InState.{InState}
use Rattle.dw_stack.specs.declared.in_state.InState.TheVariants.{Unreached, Known, Conflict}
use Rattle.dw_stack.specs.declared.state.StackState.{StackState}
use Rattle.dw_stack.specs.declared.state.Kind.{Kind}
use Rattle.dw_bytes.specs.declared.fault.FaultKind.{FaultKind}
use Rattle.dw_bytes.specs.declared.fault.FaultKind.TheVariants as fault
use Rattle.dw_stack.specs.Effects.{effect_of}
use Rattle.dw_stack.specs.declared.state.State.{State}
use Rattle.dw_stack.specs.States.{start_of, height_after, state_after, HasResult, at_offset}
use Rattle.dw_stack.specs.Paths.{place, IsLaidOut, branch_target, jump_target, branch_target_of, IsTarget, Leads, Reaches, IsGood}
use Rattle.dw_stack.specs.Paths.{AreStates, IsDepth, is_piece, pieces_before}
use Rattle.dw_stack.specs.Faults.{FitsCertificate, verdicts, passes, first_failed, Objection, Refuses, rank, IsFirstFault}
use Rattle.dw_stack.specs.OperationCheck.{Objects}
use Rattle.dw_stack.specs.InStates.{StepObjects}
use Rattle.dw_stack.proofs.Places.{place_of_some, place_past, place_inj, place_mono, place_lt}
use Rattle.dw_stack.proofs.paths.Routes.{reach_from, extend, at_start, Comes, reaches_from_comes, comes_from_reaches, reached_place}
use Rattle.dw_stack.proofs.paths.Describes.{Describes, describes_is}
use Rattle.dw_stack.proofs.Pieces.{pieces_mono}
use Rattle.dw_stack.proofs.Checking.{failed, before_first, few_passes, ahead_passes, start_passes}
use Rattle.dw_stack.proofs.Walks.{Fine, Accepted, Walked, one_state}

-- if the operations don't have too many pieces, there is room for each one when it comes
few_before : (ops : List Placed) (k : ℕ) (x : Placed) → slice_get ops k ≡ Some x → is_piece (effect_of x.1).role ≡ true
    → pieces_before ops (length ops) ≤ MAX_PIECES → pieces_before ops k < MAX_PIECES
few_before ops k x s is few =
    let within = slice_get_within ops k x s in
    let read : get_or ops k x ≡ x = get_or_from_slice_get ops k x x s in
    let yes : is_piece (effect_of (get_or ops k x).1).role ≡ true = ap (λ (y : Placed). is_piece (effect_of y.1).role) read ∙ is in
    let more = count_by_more_yes (λ (y : Placed). is_piece (effect_of y.1).role) ops k x within yes in
    omega (arith, more, few, pieces_mono ops (k + 1) (length ops) (omega (arith, within)))

module _ (kind : Kind) (ops : List Placed) (len : ℕ) (laid : IsLaidOut ops len) where
  -- an operation that is `Fine` (Walks.antt) passes each check
  fine_passes : (f : FaultKind) (k : ℕ) (x : Placed) (s : StackState) → Fine kind ops len k x s
      → passes kind ops len k (pieces_before ops k) (effect_of x.1) s f ≡ true
  fine_passes fault.NotInFrame k x s fine = fine.allowed
  fine_passes fault.NotAlone k x s fine = fine.alone
  fine_passes fault.Underflow k x s fine = le-leb (effect_of x.1).needs s.height fine.needs
  fine_passes fault.TooDeep k x s fine = le-leb (height_after (effect_of x.1) s) MAX_HEIGHT fine.limit
  fine_passes fault.TooManyPieces k x s fine = few_passes (is_piece (effect_of x.1).role) (pieces_before ops k) fine.few
  fine_passes fault.Backward k x s fine = ahead_passes (place ops len (k + 1)) (effect_of x.1).jump fine.ahead
  fine_passes fault.TargetNotStart k x s fine = start_passes ops len (branch_target_of ops len k (effect_of x.1))
      (λ t is. let target = fine.target t is in (target.number, target.within, target.there))
  fine_passes _ k x s fine = refl

  fine_objection : (f : FaultKind) (k : ℕ) (x : Placed) (s : StackState) → Fine kind ops len k x s
      → Objection kind ops len k (pieces_before ops k) x s f → ⊥
  fine_objection f k x s fine o = let yes = fine_passes f k x s fine in cc

  module _ (given : Option (List State)) where
    -- the operation numbered i passes, in state s, the check that the fault names
    Passes : ℕ → StackState → FaultKind → Type 0
    Passes i s fault.Unreachable = Reaches kind ops len (place ops len i) s
    Passes i s fault.Mismatch = (t : StackState) → Reaches kind ops len (place ops len i) t → t ≡ s
    Passes i s fault.CertState = FitsCertificate ops len given i s
    Passes i s fault.EndsEmpty = i < length ops
    Passes i s f = (x : Placed) → slice_get ops i ≡ Some x → Objection kind ops len i (pieces_before ops i) x s f → ⊥

    -- an operation that has the offset of the operation numbered i has the number i
    number_is : (i k : ℕ) (x : Placed) (a : ℕ) → i ≤ length ops → slice_get ops k ≡ Some x → x.0 ≡ a → a ≡ place ops len i → k ≡ i
    number_is i k x a le s e at =
        let within = slice_get_within ops k x s in
        place_inj ops len laid k i (omega arith) le (place_of_some ops len k x s ∙ e ∙ at)

    -- a check that fails still fails if equal values replace the operation's number and the state
    moved : (f : FaultKind) (k i : ℕ) (x : Placed) (t s : StackState) → k ≡ i → t ≡ s → Objection kind ops len k (pieces_before ops k) x t f
        → Objection kind ops len i (pieces_before ops i) x s f
    moved f k i x t s ek es o =
        subst (λ (n : ℕ). Objection kind ops len n (pieces_before ops n) x s f) ek
        (subst (λ (y : StackState). Objection kind ops len k (pieces_before ops k) x y f) es o)

    -- if the operation numbered i passes Unreachable, Mismatch and the check f in state s, f
    -- doesn't refuse at the operation's offset
    pass_refuses : (f : FaultKind) (i : ℕ) (s : StackState) (a : ℕ) → i ≤ length ops → a ≡ place ops len i → Passes i s fault.Unreachable
        → Passes i s fault.Mismatch → Passes i s f → Refuses kind ops len given f a → ⊥
    unfolding Passes
    pass_refuses fault.Unreachable i s a le at there one p r = r.4 s (reach_from kind ops len (place ops len i) a s s (sym at) refl there)
    pass_refuses fault.Mismatch i s a le at there one p r =
        r.4 (one r.0 (reach_from kind ops len a (place ops len i) r.0 r.0 at refl r.2)
        ∙ sym (one r.1 (reach_from kind ops len a (place ops len i) r.1 r.1 at refl r.3)))
    pass_refuses fault.CertState i s a le at there one p r =
        let k_is : r.0 ≡ i = number_is i r.0 r.1 a le r.3 r.4 at in
        let s_is : r.2 ≡ s = one r.2 (reach_from kind ops len a (place ops len i) r.2 r.2 at refl r.5) in
        (subst (λ (n : ℕ). FitsCertificate ops len given n s → ⊥) k_is (subst (λ (n : StackState). FitsCertificate ops len given r.0 n → ⊥) s_is r.6)) p
    pass_refuses fault.EndsEmpty i s a le at there one p r =
        let low = place_mono ops len laid i (length ops) p (omega arith) in
        let end = place_past ops len (length ops) (omega arith) in
        omega (arith, r.0, at, low, end)
    pass_refuses f i s a le at there one p r =
        let k_is : r.0 ≡ i = number_is i r.0 r.1 a le r.3 r.4 at in
        let s_is : r.2 ≡ s = one r.2 (reach_from kind ops len a (place ops len i) r.2 r.2 at refl r.5) in
        p r.1 (ap (slice_get ops) (sym k_is) ∙ r.3) (moved f r.0 i r.1 r.2 s k_is s_is r.6)

    accepted_passes : (f : FaultKind) (i : ℕ) (s : StackState) → i < length ops → Accepted kind ops len given i s → Passes i s f
    unfolding Passes
    accepted_passes fault.Unreachable i s lt a = a.reached
    accepted_passes fault.Mismatch i s lt a = a.one
    accepted_passes fault.CertState i s lt a = a.given_is
    accepted_passes fault.EndsEmpty i s lt a = lt
    accepted_passes f i s lt a = λ x e o. fine_objection f i x s (a.fine x e) o

    -- after the pass has checked i operations, each of them has its state in `states`, and is
    -- `Accepted` (Walks.antt) in that state
    pub state_of : (i : ℕ) (states : List State) (in_states : List InState) (depth pieces k : ℕ)
        → Walked kind ops len given i states in_states depth pieces → k < i
        → (s : StackState) × (slice_get states k ≡ Some (at_offset (place ops len k) s)) × Accepted kind ops len given k s
    state_of i states in_states depth pieces k w lt =
        elim (slice_get_cases states k).1 [
          | inl found ↦
              let here = w.accepted k found.0 found.2 in
              (here.0, found.2 ∙ ap (λ (t : State). Some t) here.1, here.2)
          | inr past ↦ absurd (omega (arith, past.0, w.long))
        ]

    -- a check refuses only at the offset of an operation, or at the end
    refusal_place : (f : FaultKind) (a : ℕ) → Refuses kind ops len given f a → (j : ℕ) × (j ≤ length ops) × (place ops len j ≡ a)
    refusal_place fault.Unreachable a r = (r.0, omega (arith, slice_get_within ops r.0 r.1 r.2), place_of_some ops len r.0 r.1 r.2 ∙ r.3)
    refusal_place fault.Mismatch a r = reached_place kind ops len laid a r.0 r.2
    refusal_place fault.EndsEmpty a r = (length ops, omega arith, place_past ops len (length ops) (omega arith) ∙ sym r.0)
    refusal_place f a r = (r.0, omega (arith, slice_get_within ops r.0 r.1 r.3), place_of_some ops len r.0 r.1 r.3 ∙ r.4)

    module _ (i : ℕ) (states : List State) (in_states : List InState) (depth pieces : ℕ)
        (w : Walked kind ops len given i states in_states depth pieces) where
      -- no check refuses below the offset of the operation numbered i, as all operations before it
      -- were checked
      none_below : i ≤ length ops → (f : FaultKind) (a : ℕ) → a < place ops len i → Refuses kind ops len given f a → ⊥
      none_below le f a lt r =
          let p = refusal_place f a r in
          let low : place ops len p.0 < place ops len i = omega (arith, p.2) in
          let k_lt : p.0 < i = place_lt ops len laid p.0 i p.1 le low in
          let h = state_of i states in_states depth pieces p.0 w k_lt in
          let lt' : p.0 < length ops = omega arith in
          pass_refuses f p.0 h.0 a p.1 (sym p.2) (accepted_passes fault.Unreachable p.0 h.0 lt' h.2)
          (accepted_passes fault.Mismatch p.0 h.0 lt' h.2) (accepted_passes f p.0 h.0 lt' h.2) r

      -- if f refuses at the operation numbered i, or at the end, and no check with a lower rank
      -- refuses there, f is the first fault
      first_here : (f : FaultKind) (a : ℕ) → i ≤ length ops → a ≡ place ops len i → Refuses kind ops len given f a
          → ((g : FaultKind) → rank g < rank f → Refuses kind ops len given g a → ⊥) → IsFirstFault kind ops len given f a
      first_here f a le at r here = record {
        refuses = r;
        first = λ g b before refuses. elim before [
          | inl below ↦ none_below le g b (omega arith) refuses
          | inr same ↦ here g same.1 (subst (λ (n : ℕ). Refuses kind ops len given g n) same.0 refuses)
        ];
      }

      -- If the table has one known state for the operation numbered i, f refuses at the operation's
      -- offset, and the operation passes all checks with a lower rank, then f is the first fault.
      one_fault : (f : FaultKind) (s : StackState) → i < length ops → get_or in_states i Unreached ≡ Known s
          → (Reaches kind ops len (place ops len i) s → Refuses kind ops len given f (place ops len i))
          → ((g : FaultKind) → rank g < rank f → Passes i s fault.Unreachable → Passes i s fault.Mismatch → Passes i s g)
          → IsFirstFault kind ops len given f (place ops len i)
      unfolding Passes
      one_fault f s lt e r before =
          let here = one_state kind ops len laid given i s (get_or in_states i Unreached) (omega arith) e
          (w.described i (omega arith) (omega arith)) in
          first_here f (place ops len i) (omega arith) refl (r here.0)
          (λ g less refuses. pass_refuses g i s (place ops len i) (omega arith) refl here.0 here.1
          (before g less here.0 here.1) refuses)

      before_state : (g : FaultKind) (s : StackState) → rank g < rank fault.CertState → Passes i s fault.Unreachable
          → Passes i s fault.Mismatch → Passes i s g
      before_state fault.Unreachable s lt u m = u
      before_state fault.Mismatch s lt u m = m
      before_state _ s lt u m = absurd (omega (arith, lt))

      -- if the operation passes Unreachable, Mismatch and CertState, and f is the first of its
      -- other checks that fails (first_failed), it passes all checks that come before f
      before_local : (f g : FaultKind) (x : Placed) (s : StackState) → i < length ops → slice_get ops i ≡ Some x
          → first_failed (passes kind ops len i (pieces_before ops i) (effect_of x.1) s) ≡ Some f → rank g < rank f
          → Passes i s fault.Unreachable → Passes i s fault.Mismatch → FitsCertificate ops len given i s → Passes i s g
      unfolding Passes
      before_local f fault.Unreachable x s here stands first less u m is = u
      before_local f fault.Mismatch x s here stands first less u m is = m
      before_local f fault.CertState x s here stands first less u m is = is
      before_local f fault.EndsEmpty x s here stands first less u m is = here
      before_local f g x s here stands first less u m is = λ y e o.
          let yes = before_first kind ops len i (pieces_before ops i) (effect_of x.1) s f g first less in
          let no : Objection kind ops len i (pieces_before ops i) x s g =
          subst (λ (z : Placed). Objection kind ops len i (pieces_before ops i) z s g) (same_Some y x (sym e ∙ stands)) o in
          cc

      -- if the operation fails the check f in state s (Objection), and a path reaches the operation
      -- with s, then f refuses at the operation's offset
      local_refuses : (f : FaultKind) (x : Placed) (s : StackState) → slice_get ops i ≡ Some x
          → Objection kind ops len i (pieces_before ops i) x s f → Reaches kind ops len (place ops len i) s
          → Refuses kind ops len given f (place ops len i)
      local_refuses fault.Unreachable x s stands o there = absurd (cc)
      local_refuses fault.Mismatch x s stands o there = absurd (cc)
      local_refuses fault.CertState x s stands o there = absurd (cc)
      local_refuses fault.EndsEmpty x s stands o there = absurd (cc)
      local_refuses f x s stands o there = (i, x, s, stands, sym (place_of_some ops len i x stands), there, o)

      pub objects_fault : (f : FaultKind) (s : StackState) → i < length ops → get_or in_states i Unreached ≡ Known s
          → FitsCertificate ops len given i s → Objects kind ops len i pieces s f → IsFirstFault kind ops len given f (place ops len i)
      unfolding Passes
      objects_fault f s lt e is o =
          let first : first_failed (passes kind ops len i (pieces_before ops i) (effect_of o.placed.1) s) ≡ Some f =
          subst (λ (n : ℕ). first_failed (passes kind ops len i n (effect_of o.placed.1) s) ≡ Some f) w.counted o.first in
          one_fault f s lt e (local_refuses f o.placed s o.stands
          (failed (passes kind ops len i (pieces_before ops i) (effect_of o.placed.1) s) verdicts f first))
          (λ g less u m. before_local f g o.placed s lt o.stands first less u m is)

      -- if a step of the pass reports the fault f, f is the first fault
      pub step_fault : (f : FaultKind) → i < length ops → StepObjects kind ops len given i pieces in_states f
          → IsFirstFault kind ops len given f (place ops len i)
      unfolding Passes
      step_fault fault.Unreachable lt o =
          let d : Describes Unreached (Comes kind ops len i (place ops len i)) =
          describes_is (get_or in_states i Unreached) Unreached (Comes kind ops len i (place ops len i)) o
          (w.described i (omega arith) (omega arith)) in
          elim (slice_get_cases ops i).1 [
            | inl some ↦ first_here fault.Unreachable (place ops len i) (omega arith) refl (
              i,
              some.0,
              some.2,
              sym (place_of_some ops len i some.0 some.2),
              λ s r. d s (comes_from_reaches kind ops len laid i s (omega arith) r),
            ) (λ g less _. omega (arith, less))
            | inr none ↦ absurd (omega (arith, none.0))
          ]
      step_fault fault.Mismatch lt o =
          let d : Describes Conflict (Comes kind ops len i (place ops len i)) =
          describes_is (get_or in_states i Unreached) Conflict (Comes kind ops len i (place ops len i)) o
          (w.described i (omega arith) (omega arith)) in
          let s = reaches_from_comes kind ops len laid i (place ops len i) d.0 d.2 in
          let t = reaches_from_comes kind ops len laid i (place ops len i) d.1 d.3 in
          first_here fault.Mismatch (place ops len i) (omega arith) refl (d.0, d.1, s, t, d.4) (below_mismatch d.0 s)
        where
          below_mismatch : (s : StackState) → Reaches kind ops len (place ops len i) s → (g : FaultKind) → rank g < rank fault.Mismatch
              → Refuses kind ops len given g (place ops len i) → ⊥
          below_mismatch s there fault.Unreachable less r = r.4 s there
          below_mismatch s there _ less r = omega (arith, less)
      step_fault fault.CertState lt o =
          elim (slice_get_cases ops i).1 [
            | inl some ↦ one_fault fault.CertState o.0 lt o.1
                (λ there. (i, some.0, o.0, some.2, sym (place_of_some ops len i some.0 some.2), there, o.2))
                (λ g less u m. before_state g o.0 less u m)
            | inr none ↦ absurd (omega (arith, none.0))
          ]
      step_fault f lt o = objects_fault f o.0 lt o.1 o.2 o.3

    no_operation_at_end : (k : ℕ) (x : Placed) → slice_get ops k ≡ Some x → x.0 ≡ len → ⊥
    no_operation_at_end k x s e =
        let within = slice_get_within ops k x s in
        omega (
          arith,
          place_of_some ops len k x s,
          e,
          place_mono ops len laid k (length ops) within (omega arith),
          place_past ops len (length ops) (omega arith),
        )

    at_end : place ops len (length ops) ≡ len
    at_end = place_past ops len (length ops) (omega arith)

    end_reached : (i k : ℕ) → length ops ≡ k → i ≡ k → (states : List State) (in_states : List InState) (depth pieces : ℕ)
        → Walked kind ops len given i states in_states depth pieces → (g : StackState) × Reaches kind ops len (place ops len (length ops)) g
    end_reached i zero none e states in_states depth pieces w = (
      start_of kind,
      reach_from kind ops len 0 (place ops len (length ops)) (start_of kind) (start_of kind)
          (sym laid.first ∙ ap (place ops len) (sym none)) refl (at_start kind ops len),
    )
    end_reached i (suc k) some e states in_states depth pieces w =
        let last = state_of i states in_states depth pieces k w (omega arith) in
        elim (slice_get_cases ops k).1 [
          | inl found ↦ goes k (omega arith) found.0 last.0 found.2 last.2
          | inr past ↦ absurd (omega (arith, past.0))
        ]
      where
        leads_on : (op : Operation) → IsTrue (effect_of op).falls_through ⊎ ((z : ℤ) × ((effect_of op).jump ≡ Some z))
        leads_on (skip z) = inr (z, refl)
        leads_on _ = inl refl

        goal_at : (next : ℕ) (z : ℤ) → (branch_target next z ≡ None) ⊎ ((t : ℕ) × (branch_target next z ≡ Some t))
        goal_at next (negsuc n) = inl refl
        goal_at next z = inr (_, refl)

        goes : (k : ℕ) → length ops ≡ k + 1 → (x : Placed) (h : StackState) → slice_get ops k ≡ Some x → Accepted kind ops len given k h
            → (g : StackState) × Reaches kind ops len (place ops len (length ops)) g
        goes k e x h s a =
            let arrive : Leads ops len k (effect_of x.1) (place ops len (length ops))
            → (g : StackState) × Reaches kind ops len (place ops len (length ops)) g = λ leads. (
              state_after (effect_of x.1) h,
              extend kind ops len (place ops len k) h (place ops len (length ops))
                  (state_after (effect_of x.1) h) a.reached
                  (record { number = k; placed = x; stands = s; from = sym (place_of_some ops len k x s); leads = leads; state = refl }),
            ) in
            elim (leads_on x.1) [
              | inl falls_through ↦ arrive (inl (falls_through, ap (place ops len) e))
              | inr jump ↦ elim (goal_at (place ops len (k + 1)) jump.0) [
                | inl back ↦ absurd ((a.fine x s).ahead jump.0 jump.1 back)
                | inr found ↦
                    let aimed_at : branch_target_of ops len k (effect_of x.1) ≡ Some found.0 =
                    ap (jump_target (place ops len (k + 1))) jump.1 ∙ found.1 in
                    let t = (a.fine x s).target found.0 aimed_at in
                    let same : place ops len t.number ≡ place ops len (length ops) =
                    ap (place ops len) (omega (arith, t.later, t.within)) in
                    let e_t : found.0 ≡ place ops len (length ops) = sym t.there ∙ same in
                    arrive (inr (aimed_at ∙ ap (λ (n : ℕ). Some n) e_t, subst (λ (n : ℕ). IsTarget ops len k n) e_t t))
              ]
            ]

    module _ (i : ℕ) (all : i ≡ length ops) (states : List State) (in_states : List InState) (depth pieces : ℕ)
        (w : Walked kind ops len given i states in_states depth pieces) where
      end_described : Describes (get_or in_states (length ops) Unreached) (Comes kind ops len (length ops) (place ops len (length ops)))
      end_described = subst (λ (n : ℕ). Describes (get_or in_states (length ops) Unreached)
          (Comes kind ops len n (place ops len (length ops)))) all (w.described (length ops) (omega arith) (omega arith))

      -- the table's entry for the end isn't `Unreached`, because some path reaches the end
      pub end_not_nothing : get_or in_states (length ops) Unreached ≡ Unreached → ⊥
      end_not_nothing e =
          let r = end_reached i (length ops) refl all states in_states depth pieces w in
          let d : Describes Unreached (Comes kind ops len (length ops) (place ops len (length ops))) =
          subst (λ (a : InState). Describes a (Comes kind ops len (length ops) (place ops len (length ops)))) e end_described in
          d r.0 (comes_from_reaches kind ops len laid (length ops) r.0 (omega arith) r.1)

      end_first : (f : FaultKind) → Refuses kind ops len given f len
          → ((g : FaultKind) → rank g < rank f → Refuses kind ops len given g len → ⊥) → IsFirstFault kind ops len given f len
      end_first f r here = first_here i states in_states depth pieces w f len (omega arith)
          (sym at_end ∙ ap (place ops len) (sym all)) r here

      pub end_mismatch : get_or in_states (length ops) Unreached ≡ Conflict → IsFirstFault kind ops len given fault.Mismatch len
      end_mismatch e =
          let d : Describes Conflict (Comes kind ops len (length ops) (place ops len (length ops))) =
          subst (λ (a : InState). Describes a (Comes kind ops len (length ops) (place ops len (length ops)))) e end_described in
          let at : (n : StackState) → Comes kind ops len (length ops) (place ops len (length ops)) n → Reaches kind ops len len n =
          λ n c. reach_from kind ops len (place ops len (length ops)) len n n at_end refl
          (reaches_from_comes kind ops len laid (length ops) (place ops len (length ops)) n c) in
          end_first fault.Mismatch (d.0, d.1, at d.0 d.2, at d.1 d.3, d.4) below_mismatch
        where
          below_mismatch : (f : FaultKind) → rank f < rank fault.Mismatch → Refuses kind ops len given f len → ⊥
          below_mismatch fault.Unreachable less r = no_operation_at_end r.0 r.1 r.2 r.3
          below_mismatch _ less r = omega (arith, less)

      end_one : (s : StackState) → get_or in_states (length ops) Unreached ≡ Known s
          → Reaches kind ops len len s × ((t : StackState) → Reaches kind ops len len t → t ≡ s)
      end_one s e =
          let here = one_state kind ops len laid given (length ops) s (get_or in_states (length ops) Unreached)
          (omega arith) e end_described in (
            reach_from kind ops len (place ops len (length ops)) len s s at_end refl here.0,
            λ t r. here.1 t (reach_from kind ops len len (place ops len (length ops)) t t (sym at_end) refl r),
          )

      pub end_empty : (s : StackState) → get_or in_states (length ops) Unreached ≡ Known s → (HasResult kind (length ops == 0) s → ⊥)
          → IsFirstFault kind ops len given fault.EndsEmpty len
      end_empty s e low = end_first fault.EndsEmpty (refl, (s, (end_one s e).0, low)) below_empty
        where
          below_empty : (f : FaultKind) → rank f < rank fault.EndsEmpty → Refuses kind ops len given f len → ⊥
          below_empty fault.Unreachable less r = no_operation_at_end r.0 r.1 r.2 r.3
          below_empty fault.Mismatch less r = r.4 ((end_one s e).1 r.0 r.2 ∙ sym ((end_one s e).1 r.1 r.3))
          below_empty fault.EndsEmpty less r = omega (arith, less)
          below_empty _ less r = no_operation_at_end r.0 r.1 r.3 r.4

      -- each operation has its state in `states`, and is `Accepted` (Walks.antt) in that state
      accepted_at : (k : ℕ) (x : Placed) → slice_get ops k ≡ Some x
          → (s : StackState) × (slice_get states k ≡ Some (at_offset (place ops len k) s)) × Accepted kind ops len given k s
      accepted_at k x s = state_of i states in_states depth pieces k w (omega (arith, slice_get_within ops k x s))

      is_state : (k : ℕ) (g h : StackState) (x : Placed) → slice_get ops k ≡ Some x → Accepted kind ops len given k h
          → Reaches kind ops len x.0 g → h ≡ g
      is_state k g h x s a r = sym (a.one g (reach_from kind ops len x.0 (place ops len k) g g (sym (place_of_some ops len k x s)) refl r))

      one_each : (b : ℕ) (g h : StackState) → ((n : StackState) → Reaches kind ops len len n → n ≡ h) → (e : StackState)
          → Reaches kind ops len b g → Reaches kind ops len b e → g ≡ e
      one_each b g h ends e r q =
          let p = reached_place kind ops len laid b g r in
          let to : (n : StackState) → Reaches kind ops len b n → Reaches kind ops len (place ops len p.0) n =
          λ n t. reach_from kind ops len b (place ops len p.0) n n (sym p.2) refl t in
          elim (cases_lt p.0 (length ops)) [
            | inl within ↦
                let a = state_of i states in_states depth pieces p.0 w (omega arith) in
                a.2.one g (to g r) ∙ sym (a.2.one e (to e q))
            | inr past ↦
                let b_is : b ≡ len = sym p.2 ∙ place_past ops len p.0 past in
                ends g (reach_from kind ops len b len g g b_is refl r) ∙ sym (ends e (reach_from kind ops len b len e e b_is refl q))
          ]

      -- an operation is `Fine` in each state with which paths reach it, because there is only one
      -- such state
      fine_at : (k : ℕ) (x : Placed) (s : StackState) → slice_get ops k ≡ Some x → Reaches kind ops len x.0 s → Fine kind ops len k x s
      fine_at k x s stands r =
          let a = accepted_at k x stands in
          subst (λ (t : StackState). Fine kind ops len k x t) (is_state k s a.0 x stands a.2 r) (a.2.fine x stands)

      pub end_good : (s : StackState) → get_or in_states (length ops) Unreached ≡ Known s → HasResult kind (length ops == 0) s
          → IsGood kind ops len
      end_good s e result = record {
        allowed = λ k x stands. let a = accepted_at k x stands in (a.2.fine x stands).allowed;
        alone = λ k x t stands r. (fine_at k x t stands r).alone;
        needs = λ k x t stands r. (fine_at k x t stands r).needs;
        limit = λ k x t stands r. (fine_at k x t stands r).limit;
        one = λ b g n r q. one_each b g s (end_one s e).1 n r q;
        each = λ k x stands. let a = accepted_at k x stands in
            ∣ (a.0, reach_from kind ops len (place ops len k) x.0 a.0 a.0 (place_of_some ops len k x stands) refl a.2.reached) ∣₁;
        ahead = λ k z x stands jump back. let a = accepted_at k x stands in (a.2.fine x stands).ahead z jump back;
        targets = λ k t x stands goes. let a = accepted_at k x stands in (a.2.fine x stands).target t goes;
        pieces = subst (λ (n : ℕ). pieces_before ops n ≤ MAX_PIECES) all (subst (λ (n : ℕ). n ≤ MAX_PIECES) w.counted w.few);
        ends = λ g r. subst (λ (t : StackState). HasResult kind (length ops == 0) t) (sym ((end_one s e).1 g r)) result;
      }

      pub end_states : AreStates kind ops len states
      end_states = record {
        long = w.long ∙ all;
        each = λ k x g s r. let a = accepted_at k x s in a.1 ∙ ap (λ (n : ℕ). Some (at_offset n a.0)) (place_of_some ops len k x s)
            ∙ ap (λ (n : StackState). Some (at_offset x.0 n)) (is_state k g a.0 x s a.2 r);
      }

      pub end_given : (k : ℕ) (x : Placed) (g : StackState) → slice_get ops k ≡ Some x → Reaches kind ops len x.0 g
          → FitsCertificate ops len given k g
      end_given k x g s r =
          let a = accepted_at k x s in
          subst (λ (n : StackState). FitsCertificate ops len given k n) (is_state k g a.0 x s a.2 r) a.2.given_is

      pub end_depth : IsDepth kind ops len depth
      end_depth = record {
        touched = elim w.deepest.touched [ inl same ↦ ∣ inl same ∣₁ | inr t ↦ ∣ inr (t.0, t.1, t.2, t.3, t.4, t.5) ∣₁ ];
        greatest = λ h t. w.deepest.greatest h
            (elim t [ inl same ↦ inl same | inr u ↦ inr (u.0, u.1, u.2, u.3, u.4, u.5, omega (arith, slice_get_within ops u.0 u.1 u.3)) ]);
      }

-- if operations are good (`IsGood`), no check refuses at any offset, as long as the states that the
-- caller passed, if any, are right
pub good_refuses : (kind : Kind) (ops : List Placed) (len : ℕ) → IsLaidOut ops len → (given : Option (List State))
    → ((k : ℕ) (x : Placed) (s : StackState) → slice_get ops k ≡ Some x → Reaches kind ops len x.0 s → FitsCertificate ops len given k s)
    → IsGood kind ops len → (f : FaultKind) (a : ℕ) → Refuses kind ops len given f a → ⊥
good_refuses kind ops len laid given is good fault.Unreachable a r =
    ∥∥₁_elim (good.each r.0 r.1 r.2) ⊥_prop (λ s. r.4 s.0 (reach_from kind ops len r.1.0 a s.0 s.0 r.3 refl s.1))
good_refuses kind ops len laid given is good fault.Mismatch a r = r.4 (good.one a r.0 r.1 r.2 r.3)
good_refuses kind ops len laid given is good fault.CertState a r =
    r.6 (is r.0 r.1 r.2 r.3 (reach_from kind ops len a r.1.0 r.2 r.2 (sym r.4) refl r.5))
good_refuses kind ops len laid given is good fault.EndsEmpty a r = r.1.2 (good.ends r.1.0 r.1.1)
good_refuses kind ops len laid given is good f a r =
    let there = reach_from kind ops len a r.1.0 r.2 r.2 (sym r.4) refl r.5 in
    fine_objection kind ops len laid f r.0 r.1 r.2 (fine r.0 r.1 r.2 r.3 there) r.6
  where
    fine : (k : ℕ) (x : Placed) (s : StackState) → slice_get ops k ≡ Some x → Reaches kind ops len x.0 s → Fine kind ops len k x s
    fine k x s stands there = record {
      allowed = good.allowed k x stands;
      alone = good.alone k x s stands there;
      needs = good.needs k x s stands there;
      limit = good.limit k x s stands there;
      few = λ is. few_before ops k x stands is good.pieces;
      ahead = λ z jump back. good.ahead k z x stands jump back;
      target = λ t goes. good.targets k t x stands goes;
    }
