-- Expressions without branches: the only state with which paths reach an operation is the state
-- after the operation before it.
use Rattle.std.proofs.Common.{◌≡◌, ◌∙◌, ℕ, ℤ, zero, suc, ◌+◌, ◌<◌, ◌≤◌, Bool, true, false, cond, List, [], ◌∷◌, ◌++◌, length, get_or}
use Rattle.std.proofs.Common.{get_or-set_same, get_or-set_other, length-append, Option, Some, None, Ok, refl, sym, ap, subst, arith}
use Rattle.std.specs.Prelude.{slice_get, slice_set, replicate, max, ◌==◌}
use Rattle.std.proofs.lemmas.Option.{slice_get_within}
use Rattle.std.proofs.lemmas.List.{length-drop, length-replicate, get_or-replicate, append_assoc, append-nil}
use Rattle.dw_bytes.specs.Answers.{values_in, fault_in}
use Rattle.dw_ops.specs.declared.expression.Expression.{Expression}
use Rattle.dw_ops.specs.Operations.{Operation, bra, skip}
use Rattle.dw_ops.specs.Opcodes.{operation_at, operations_of}
use Rattle.dw_ops.specs.Views.{bytes_of, target_of, reading_from}
use Rattle.dw_ops.proofs.Lists.{next-operation, no-operation}
use Rattle.dw_stack.specs.declared.effect.StackEffect.{StackEffect}
use Rattle.dw_stack.specs.declared.operation_check.OutState.{OutState}
use Rattle.dw_stack.specs.declared.state.State.{State}
use Rattle.dw_stack.specs.declared.state.StackState.{StackState}
use Rattle.dw_stack.specs.declared.state.Kind.{Kind}
use Rattle.dw_stack.specs.declared.step.Done.{Done}
use Rattle.dw_stack.specs.declared.in_state.InState.{InState}
use Rattle.dw_stack.specs.declared.in_state.InState.TheVariants.{Unreached, Known}
use Rattle.dw_stack.specs.Effects.{effect_of}
use Rattle.dw_stack.specs.States.{start_of, state_after, HasResult, at_offset}
use Rattle.dw_stack.specs.Paths.{Placed, IsLaidOut, is_piece}
use Rattle.dw_stack.specs.OperationCheck.{Suits, TargetIs, Checked}
use Rattle.dw_stack.specs.InStates.{Merges, Receives, Stepped}
use Rattle.dw_stack.specs.Expressions.{operations_in, reading_fault, AreStatesOf, IsChecked}
use Rattle.dw_stack.proofs.Places.{place_of_some}
use Rattle.dw_stack.proofs.Walks.{Walked, walked_start, walked_step}
use Rattle.dw_stack.proofs.Verdicts.{end_good, end_states, end_depth}
use Rattle.dw_stack.proofs.Encoded.{encoded_of, laid_if_read}
use Rattle.dw_stack.proofs.Deciding.{at_seam}

-- an operation that isn't a branch falls through to the next operation
falls : (op : Operation) → (effect_of op).jump ≡ None → (effect_of op).falls_through ≡ true
falls (bra z) none = absurd (cc)
falls (skip z) none = absurd (cc)
falls _ none = refl

-- the first i operations were checked, with these states before them; `state` is the only state
-- with which paths reach the next operation, and nothing later is reached yet
pub record Straight (kind : Kind) (ops : List Placed) (len i : ℕ) (state : StackState) (depth pieces : ℕ)
    (states : List State) : Type 0 where
  pub in_states : List InState
  pub walked : Walked kind ops len None i states in_states depth pieces
  pub here : get_or in_states i Unreached ≡ Known state
  pub beyond : (j : ℕ) → i < j → j ≤ length ops → get_or in_states j Unreached ≡ Unreached

module _ (kind : Kind) (ops : List Placed) (len : ℕ) (laid : IsLaidOut ops len) where
  straight_start : Straight kind ops len 0 (start_of kind) (start_of kind).height 0 []
  straight_start =
      let first : List InState = Known (start_of kind) ∷ replicate (length ops) Unreached in
      record {
        in_states = first;
        walked = walked_start kind ops len laid None first (wide (length ops)) refl others;
        here = refl;
        beyond = others;
      }
    where
      wide : (n : ℕ) → length (Known (start_of kind) ∷ replicate n Unreached) ≡ n + 1
      wide n = let long = length-replicate n Unreached in omega (arith, long)

      others : (j : ℕ) → 0 < j → j ≤ length ops → get_or (Known (start_of kind) ∷ replicate (length ops) Unreached) j Unreached ≡ Unreached
      others zero above le = absurd (omega arith)
      others (suc j) above le = get_or-replicate (length ops) j Unreached Unreached (omega arith)

  straight_step : (i : ℕ) (x : Placed) (state : StackState) (depth pieces height : ℕ) (states : List State) → i < length ops
      → slice_get ops i ≡ Some x → (effect_of x.1).jump ≡ None → Suits kind (effect_of x.1) pieces state height
      → Straight kind ops len i state depth pieces states
      → Straight kind ops len (i + 1) (state_after (effect_of x.1) state) (max (max depth state.height) height)
      (pieces + cond (is_piece (effect_of x.1).role) 1 0) (states ++ at_offset x.0 state ∷ [])
  straight_step i x state depth pieces height states lt stands none suits s = record {
    in_states = new;
    walked = subst (λ (n : ℕ). Walked kind ops len None (i + 1) (states ++ at_offset n state ∷ []) new (max (max depth state.height) height)
        (pieces + cond (is_piece (effect_of x.1).role) 1 0)) (place_of_some ops len i x stands)
        (walked_step kind ops len laid None i states s.in_states new depth pieces done lt s.walked stepped);
    here = get_or-set_same s.in_states (i + 1) (Known next) Unreached (omega (arith, s.walked.wide));
    beyond = λ j above le. get_or-set_other s.in_states (i + 1) j (Known next) Unreached (λ (same : j ≡ i + 1). omega (arith, above, same))
        ∙ s.beyond j (omega (arith, above)) le;
  }
    where
      e : StackEffect
      e = effect_of x.1

      next : StackState
      next = state_after (effect_of x.1) state

      new : List InState
      new = slice_set s.in_states (i + 1) (Known next)

      out : OutState
      out = record { state = next; height = height; piece = is_piece (effect_of x.1).role; falls_through = true; target = None }

      done : Done
      done = record { state = state; height = height; piece = is_piece (effect_of x.1).role }

      checked : Checked kind ops len i pieces state out
      checked = record {
        placed = x;
        stands = stands;
        allowed = suits.allowed;
        alone = suits.alone;
        needs = suits.needs;
        limit = suits.limit;
        few = suits.few;
        height = suits.height_is;
        state = refl;
        piece = refl;
        falls_through = sym (falls x.1 none);
        target = subst (λ (o : Option ℤ). TargetIs ops len i o None) (sym none) tt;
      }

      receives : Receives s.in_states (i + 1) next new
      receives = record {
        in_state = Known next;
        merges = subst (λ (a : InState). Merges a next (Known next)) (sym (s.beyond (i + 1) (omega arith) (omega (arith, lt)))) refl;
        set = refl;
      }

      stepped : Stepped kind ops len None i pieces s.in_states done new
      stepped = record {
        out = out;
        one = s.here;
        given_is = tt;
        checked = checked;
        height = refl;
        piece = refl;
        passes = record { mid = new; next = receives; target = refl };
      }

-- The bytes of an expression before the offset `at` were read as `count` operations. If all
-- operations of the expression are laid out in order, `Straight` holds for the first `count`.
pub record CheckedSoFar (kind : Kind) (e : Expression) (at count : ℕ) (state : StackState) (depth pieces : ℕ)
    (states : List State) : Type 0 where
  pub within : at ≤ length (bytes_of e)
  pub before : List Placed
  pub parts : before ++ values_in (operations_of (reading_from e at)) ≡ operations_in (target_of e) (bytes_of e)
  pub count_is : length before ≡ count
  pub fault : reading_fault (target_of e) (bytes_of e) ≡ fault_in (operations_of (reading_from e at))
  pub few : count ≤ at
  pub few_pieces : pieces ≤ count
  pub straight : IsLaidOut (operations_in (target_of e) (bytes_of e)) (length (bytes_of e))
      → Straight kind (operations_in (target_of e) (bytes_of e)) (length (bytes_of e)) count state depth pieces states

-- `CheckedSoFar` for some list of states
abbrev pub CheckedAlone : Kind → Expression → ℕ → ℕ → StackState → ℕ → ℕ → Type 0
CheckedAlone kind e at count state depth pieces = (states : List State) × CheckedSoFar kind e at count state depth pieces states

pub begun : (kind : Kind) (e : Expression) (state : StackState) → state ≡ start_of kind → CheckedSoFar kind e 0 0 state state.height 0 []
begun kind e state is = subst (λ (s : StackState). CheckedSoFar kind e 0 0 s s.height 0 []) (sym is) (record {
  within = omega arith;
  before = [];
  parts = refl;
  count_is = refl;
  fault = refl;
  few = omega arith;
  few_pieces = omega arith;
  straight = λ laid. straight_start kind (operations_in (target_of e) (bytes_of e)) (length (bytes_of e)) laid;
})

-- If there are no more pieces than operations, that stays true after one more operation; b tells
-- whether the new operation is a piece.
one_more : (b : Bool) (pieces count : ℕ) → pieces ≤ count → pieces + cond b 1 0 ≤ count + 1
one_more true pieces count le = omega (arith, le)
one_more false pieces count le = omega (arith, le)

pub further : (kind : Kind) (e : Expression) (at count : ℕ) (state : StackState) (depth pieces : ℕ) (states : List State) (op : Operation)
    (next height : ℕ) → CheckedSoFar kind e at count state depth pieces states
    → operation_at (reading_from e at) ≡ Ok (op, reading_from e next) → at < next
    → next ≤ length (bytes_of e) → (effect_of op).jump ≡ None → Suits kind (effect_of op) pieces state height
    → CheckedSoFar kind e next (count + 1) (state_after (effect_of op) state) (max (max depth state.height) height)
    (pieces + cond (is_piece (effect_of op).role) 1 0) (states ++ at_offset at state ∷ [])
further kind e at count state depth pieces states op next height j read forward within none suits = record {
  within = within;
  before = j.before ++ (at, op) ∷ [];
  parts = append_assoc j.before ((at, op) ∷ []) left ∙ parts;
  count_is = let long = length-append j.before ((at, op) ∷ []) in omega (arith, long, j.count_is);
  fault = j.fault ∙ ap fault_in step;
  few = omega (arith, forward, j.few);
  few_pieces = one_more (is_piece (effect_of op).role) pieces count j.few_pieces;
  straight = λ laid. straight_step kind ops (length (bytes_of e)) laid count (at, op) state depth pieces height states lt stands none
      suits (j.straight laid);
}
  where
    ops : List Placed
    ops = operations_in (target_of e) (bytes_of e)

    left : List Placed
    left = values_in (operations_of (reading_from e next))

    step : operations_of (reading_from e at) ≡ Ok (at, op) ∷ operations_of (reading_from e next)
    step = next-operation (reading_from e at) op (reading_from e next) read

    parts : j.before ++ (at, op) ∷ left ≡ ops
    parts = ap (λ l. j.before ++ values_in l) (sym step) ∙ j.parts

    stands : slice_get ops count ≡ Some (at, op)
    stands = ap (slice_get ops) (sym j.count_is)
        ∙ (ap (λ (xs : List Placed). slice_get xs (length j.before)) (sym parts) ∙ at_seam j.before left (at, op))

    lt : count < length ops
    lt = slice_get_within ops count (at, op) stands

-- what holds when all bytes were read
module _ (kind : Kind) (e : Expression) (at count : ℕ) (state : StackState) (depth pieces : ℕ) (states : List State)
    (j : CheckedSoFar kind e at count state depth pieces states) (past : length (bytes_of e) ≤ at) where
  no_more : operations_of (reading_from e at) ≡ []
  no_more = no-operation (reading_from e at) (omega (arith, past, length-drop at (bytes_of e)))

  fine : reading_fault (target_of e) (bytes_of e) ≡ None
  fine = j.fault ∙ ap fault_in no_more

  laid_all : IsLaidOut (operations_in (target_of e) (bytes_of e)) (length (bytes_of e))
  laid_all = laid_if_read (target_of e) (bytes_of e) fine

  all : count ≡ length (operations_in (target_of e) (bytes_of e))
  all = sym j.count_is ∙ ap length (sym (append-nil j.before) ∙ (ap (λ l. j.before ++ values_in l) (sym no_more) ∙ j.parts))

  -- `states` has the states with which paths reach the operations
  pub states_checked : AreStatesOf kind (target_of e) (bytes_of e) states
  states_checked =
      let s = j.straight laid_all in
      end_states kind (operations_in (target_of e) (bytes_of e)) (length (bytes_of e)) laid_all None count all states s.in_states depth
      pieces s.walked

  -- if there is a result at the end, the expression passed the check
  pub checked : HasResult kind (count == 0) state
      → IsChecked (record { kind = kind; target = target_of e; bytes = bytes_of e; depth = depth; count = count })
  checked result = record {
    good = record {
      encoded = encoded_of (target_of e) (bytes_of e) fine;
      good = end_good kind ops (length (bytes_of e)) laid_all None count all states s.in_states depth pieces s.walked state last
          (subst (λ (n : ℕ). HasResult kind (n == 0) state) all result);
    };
    depth = end_depth kind ops (length (bytes_of e)) laid_all None count all states s.in_states depth pieces s.walked;
    count = all;
  }
    where
      ops : List Placed
      ops = operations_in (target_of e) (bytes_of e)

      s : Straight kind ops (length (bytes_of e)) count state depth pieces states
      s = j.straight laid_all

      last : get_or s.in_states (length ops) Unreached ≡ Known state
      last = ap (λ (n : ℕ). get_or s.in_states n Unreached) (sym all) ∙ s.here
