use Rattle.std.proofs.Common.{◌≡◌, ◌+◌, ◌<◌, ◌⊎◌, ◌∙◌, refl, sym, ap, subst, length, ℕ, Option, List, [], cond, Bool, ◌∷◌, ◌++◌, arith}
use Rattle.std.proofs.Common.{rules, get_or, length-set, get_or-set_same, get_or-set_other, inr}
use Rattle.std.proofs.lemmas.List.{length-replicate, get_or-replicate}
use Rattle.std.proofs.lemmas.Grind.{common_steps}
use Rattle.std.specs.Prelude.{slice_set, replicate, max, Ok, Err, ◌==◌}
use Rattle.std.specs.List.{refill}
use Rattle.dw_bytes.specs.declared.fault.Fault.{Fault}
use Rattle.dw_bytes.specs.declared.fault.FaultKind.{FaultKind}
use Rattle.dw_bytes.specs.declared.fault.FaultKind.TheVariants.{Mismatch, EndsEmpty}
use Rattle.dw_bytes.specs.Answers.{memory}
use Rattle.dw_stack.specs.declared.state.State.{State}
use Rattle.dw_stack.specs.declared.state.StackState.{StackState}
use Rattle.dw_stack.specs.declared.state.Kind.{Kind}
use Rattle.dw_stack.specs.declared.step.Done.{Done}
use Rattle.dw_stack.specs.declared.in_state.InState.{InState}
use Rattle.dw_stack.specs.declared.in_state.InState.TheVariants.{Unreached, Known, Conflict}
use Rattle.dw_stack.specs.States.{start_of, HasResult, at_offset}
use Rattle.dw_stack.specs.Paths.{Placed, place, IsLaidOut}
use Rattle.dw_stack.specs.Faults.{IsFirstFault}
use Rattle.dw_stack.specs.InStates.{given_of, known_state, Stepped, StepObjects}
use Rattle.dw_stack.specs.Views.{placed_in}
use Rattle.dw_stack.proofs.paths.Describes.{arrived_is}
use Rattle.dw_stack.proofs.Lists.{placed_in_length}
use Rattle.dw_stack.proofs.Places.{place_le}
use Rattle.dw_stack.proofs.Walks.{Walked, length-passed, walked_start, walked_step}
use Rattle.dw_stack.proofs.Verdicts.{step_fault, end_not_nothing, end_mismatch, end_empty, end_good, end_states, end_given, end_depth}
use Rattle.dw_stack.proofs.pass.pass.Goals.{then-done, else-done}
use Rattle.dw_stack.proofs.pass.pass.Goals as goal

-- when a borrowed slice is given back, the list has the slice's new elements
written : (new items : List InState) (n : ℕ) → length items ≡ n → length new ≡ n → refill n items new ≡ new
written new items n a b = grind (arith, common_steps)

refusal_of : (kind : Kind) (ops : List Placed) (len : ℕ) (given : Option (List State)) (e : Fault) (f : FaultKind) (a a' : ℕ)
    → e ≡ record { kind = f; at = a' } → a' ≡ a → IsFirstFault kind ops len given f a
    → (e ≡ memory) ⊎ IsFirstFault kind ops len given e.kind e.at
refusal_of kind ops len given e f a a' is at first =
    let here : IsFirstFault kind ops len given f a' = subst (λ (n : ℕ). IsFirstFault kind ops len given f n) (sym at) first in
    inr (subst (λ (x : Fault). IsFirstFault kind ops len given x.kind x.at) (sym is) here)

begins : (kind : Kind) (ops : List Placed) (len : ℕ) → IsLaidOut ops len
    → (given : Option (List State)) (count : ℕ) (s : StackState) (states : List State) (in_states : List InState) → count ≡ length ops
    → s ≡ start_of kind → states ≡ [] → in_states ≡ slice_set (replicate (count + 1) Unreached) 0 (Known s)
    → Walked kind ops len given 0 states in_states s.height 0
begins kind ops len laid given count s states in_states count_is start none is =
    let plain : List InState = replicate (count + 1) Unreached in
    let long : length plain ≡ length ops + 1 = length-replicate (count + 1) Unreached ∙ ap (λ (n : ℕ). n + 1) count_is in
    let first : List InState = slice_set plain 0 (Known (start_of kind)) in
    let wide : length first ≡ length ops + 1 = length-set plain 0 (Known (start_of kind)) ∙ long in
    let w = walked_start kind ops len laid given first wide
    (get_or-set_same plain 0 (Known (start_of kind)) Unreached (omega arith))
    (λ j pos le. let ne : j ≡ 0 → ⊥ = λ e. omega arith in get_or-set_other plain 0 j (Known (start_of kind)) Unreached ne
    ∙ get_or-replicate (count + 1) j Unreached Unreached (omega arith)) in
    let e : in_states ≡ first = is ∙ ap (λ (t : StackState). slice_set plain 0 (Known t)) start in
    subst (λ (n : ℕ). Walked kind ops len given 0 states in_states n 0) (ap (λ (t : StackState). t.height) (sym start))
    (subst (λ (xs : List InState). Walked kind ops len given 0 states xs (start_of kind).height 0) (sym e)
    (subst (λ (hs : List State). Walked kind ops len given 0 hs first (start_of kind).height 0) (sym none) w))

step_of : (kind : Kind) (ops : List Placed) (len : ℕ) → IsLaidOut ops len
    → (given : Option (List State)) (i : ℕ) (states states' : List State) (old new last : List InState) (depth depth' pieces pieces' : ℕ)
    (done : Done) → i < length ops → Walked kind ops len given i states old depth pieces → Stepped kind ops len given i pieces old done new
    → states' ≡ states ++ at_offset (place ops len i) done.state ∷ [] → last ≡ new → depth' ≡ max (max depth done.state.height) done.height
    → pieces' ≡ pieces + cond done.piece 1 0 → Walked kind ops len given (i + 1) states' last depth' pieces'
step_of kind ops len laid given i states states' old new last depth depth' pieces pieces' done lt w s eh el ed ep =
    let v = walked_step kind ops len laid given i states old new depth pieces done lt w s in
    let more : List State = states ++ at_offset (place ops len i) done.state ∷ [] in
    subst (λ (n : ℕ). Walked kind ops len given (i + 1) states' last depth' n) (sym ep)
    (subst (λ (hs : List State). Walked kind ops len given (i + 1) hs last depth' (pieces + cond done.piece 1 0)) (sym eh)
    (subst (λ (xs : List InState). Walked kind ops len given (i + 1) more xs depth' (pieces + cond done.piece 1 0)) (sym el)
    (subst (λ (d : ℕ). Walked kind ops len given (i + 1) more new d (pieces + cond done.piece 1 0)) (sym ed) v)))

pub loop-i-init : goal.loop-i-init
loop-i-init c = begins c.args.kind (placed_in c.args.operations.now) c.args.end c.requires.laid (given_of c.args.given)
    (length c.args.operations.now) c.start_state-start.result c.new-states.result.items c.in_ok-in_states.in_states.items
    (sym (placed_in_length c.args.operations.now)) c.start_state-start.ensures c.new-states.ensures.items c.in_ok-in_states.ensures.ok

pub loop-i-preserved : goal.loop-i-preserved
loop-i-preserved c =
    let ops = placed_in c.args.operations.now in
    let long = placed_in_length c.args.operations.now in
    let pushed : c.push.new.self.items ≡ c.loop-i.states.items ++ at_offset (place ops c.args.end c.loop-i.i) c.in-Ok.done.state ∷ [] =
    search rules in
    let stepped = subst (λ (xs : List InState). Stepped c.args.kind ops c.args.end
    (given_of c.args.given) c.loop-i.i c.loop-i.pieces xs c.in-Ok.done c.step_of_pass.new.in_states)
    c.deref_mut.ensures.value c.in-Ok.ensures.ok in
    step_of c.args.kind ops c.args.end c.requires.laid
    (given_of c.args.given) c.loop-i.i c.loop-i.states.items c.push.new.self.items c.loop-i.in_states.items c.step_of_pass.new.in_states _
    c.loop-i.depth c.max-depth.result c.loop-i.pieces _ c.in-Ok.done (omega (arith, long, c.loop-i-test.true)) c.loop-i.invariant
    stepped
    pushed
    (written c.step_of_pass.new.in_states c.loop-i.in_states.items (length c.loop-i.in_states.items) refl
    (length-passed c.loop-i.in_states.items c.step_of_pass.new.in_states c.loop-i.i stepped.out stepped.passes))
    (c.max-depth.ensures ∙ ap (λ (n : ℕ). max n c.in-Ok.done.height) c.max.ensures)
    (ap (λ (n : ℕ). c.loop-i.pieces + n) (elim c.if-done.branch [
      | then-done w ↦ w.pieces-is
          ∙ sym (ap (λ (b : Bool). cond b 1 0) w.if-done.true)
      | else-done w ↦
          w.pieces-is ∙ sym (ap (λ (b : Bool). cond b 1 0) w.if-done.false)
    ]))

pub returns-in-Err-clause-first : goal.returns-in-Err-clause-first
returns-in-Err-clause-first c =
    let ops = placed_in c.args.operations.now in
    let f = step_fault c.args.kind ops c.args.end c.requires.laid
    (given_of c.args.given) c.loop-i.i c.loop-i.states.items c.loop-i.in_states.items c.loop-i.depth c.loop-i.pieces c.loop-i.invariant
    c.in-Err.kind (omega (arith, placed_in_length c.args.operations.now, c.loop-i-test.true))
    (subst (λ (xs : List InState). StepObjects c.args.kind ops c.args.end
    (given_of c.args.given) c.loop-i.i c.loop-i.pieces xs c.in-Err.kind) c.deref_mut.ensures.value c.in-Err.ensures.err) in
    refusal_of c.args.kind ops c.args.end
    (given_of c.args.given) c.refusal.result c.in-Err.kind _ _ c.refusal.ensures c.place_of_operation-in-Err.ensures f

module _ (kind : Kind) (ops : List Placed) (len : ℕ) (laid : IsLaidOut ops len) (given : Option (List State)) (i : ℕ) (all : i ≡ length ops)
    (states : List State) (in_states : List InState) (depth pieces : ℕ)
    (w : Walked kind ops len given i states in_states depth pieces) where
  end_refused : (a : InState) (f : FaultKind) → get_or in_states (length ops) Unreached ≡ a → Err f ≡ known_state a
      → IsFirstFault kind ops len given f len
  end_refused Unreached f e is = absurd (end_not_nothing kind ops len laid given i all states in_states depth pieces w e)
  end_refused (Known s) f e is = absurd (cc)
  end_refused Conflict f e is =
      let same : Mismatch ≡ f = cc in
      subst (λ (g : FaultKind). IsFirstFault kind ops len given g len) same
      (end_mismatch kind ops len laid given i all states in_states depth pieces w e)

  end_state : (a : InState) (s : StackState) → get_or in_states (length ops) Unreached ≡ a → Ok s ≡ known_state a
      → get_or in_states (length ops) Unreached ≡ Known s
  end_state a s e is = e ∙ arrived_is a s is

-- reading equal lists at equal indexes gives the same `InState`
last_read : (xs items : List InState) (n m : ℕ) → xs ≡ items → m ≡ n → get_or items m Unreached ≡ get_or xs n Unreached
last_read xs items n m same long = ap (get_or_at m) (sym same) ∙ ap (λ (k : ℕ). get_or xs k Unreached) long
  where
    get_or_at : ℕ → List InState → InState
    get_or_at k ys = get_or ys k Unreached

pub returns-in-Err-in_state_at-clause-first : goal.returns-in-Err-in_state_at-clause-first
returns-in-Err-in_state_at-clause-first c =
    let long = placed_in_length c.args.operations.now in
    let all : c.loop-i.i ≡ length (placed_in c.args.operations.now) = omega (arith, long, c.loop-i-test.false, c.loop-i.auto.i-end) in
    let e = last_read c.as_slice.result.now c.loop-i.in_states.items (length c.args.operations.now)
    (length (placed_in c.args.operations.now)) c.as_slice.ensures long in
    let f = end_refused c.args.kind (placed_in c.args.operations.now) c.args.end c.requires.laid
    (given_of c.args.given) c.loop-i.i all c.loop-i.states.items c.loop-i.in_states.items c.loop-i.depth c.loop-i.pieces c.loop-i.invariant
    (get_or c.as_slice.result.now (length c.args.operations.now) Unreached) c.in-Err-in_state_at.kind e c.in-Err-in_state_at.ensures in
    refusal_of c.args.kind (placed_in c.args.operations.now) c.args.end
    (given_of c.args.given) c.refusal-in-Err-in_state_at.result c.in-Err-in_state_at.kind _ _ c.refusal-in-Err-in_state_at.ensures refl f

pub returns-then-not-has_result-clause-first : goal.returns-then-not-has_result-clause-first
returns-then-not-has_result-clause-first c =
    let long = placed_in_length c.args.operations.now in
    let all : c.loop-i.i ≡ length (placed_in c.args.operations.now) = omega (arith, long, c.loop-i-test.false, c.loop-i.auto.i-end) in
    let e = last_read c.as_slice.result.now c.loop-i.in_states.items (length c.args.operations.now)
    (length (placed_in c.args.operations.now)) c.as_slice.ensures long in
    let one = end_state c.args.kind (placed_in c.args.operations.now) c.args.end c.requires.laid
    (given_of c.args.given) c.loop-i.i all c.loop-i.states.items c.loop-i.in_states.items c.loop-i.depth c.loop-i.pieces c.loop-i.invariant
    (get_or c.as_slice.result.now (length c.args.operations.now) Unreached) c.in-Ok-in_state_at.state e c.in-Ok-in_state_at.ensures in
    let empty : (length (placed_in c.args.operations.now) == 0) ≡ c.is_empty.result = ap (λ (n : ℕ). n == 0) long
    ∙ sym c.is_empty.ensures in
    let f = end_empty c.args.kind (placed_in c.args.operations.now) c.args.end c.requires.laid
    (given_of c.args.given) c.loop-i.i all c.loop-i.states.items c.loop-i.in_states.items c.loop-i.depth c.loop-i.pieces c.loop-i.invariant
    c.in-Ok-in_state_at.state one (λ has. let yes = subst (λ (b : Bool). HasResult c.args.kind b c.in-Ok-in_state_at.state) empty has in
    let same = c.has_result.ensures in let other = c.if-not-has_result.true in absurd (cc)) in
    refusal_of c.args.kind (placed_in c.args.operations.now) c.args.end
    (given_of c.args.given) c.refusal-then-not-has_result.result EndsEmpty _ _ c.refusal-then-not-has_result.ensures refl f

pub returns-clause-good : goal.returns-clause-good
returns-clause-good c =
    let long = placed_in_length c.args.operations.now in
    let all : c.loop-i.i ≡ length (placed_in c.args.operations.now) = omega (arith, long, c.loop-i-test.false, c.loop-i.auto.i-end) in
    let e = last_read c.as_slice.result.now c.loop-i.in_states.items (length c.args.operations.now)
    (length (placed_in c.args.operations.now)) c.as_slice.ensures long in
    let one = end_state c.args.kind (placed_in c.args.operations.now) c.args.end c.requires.laid
    (given_of c.args.given) c.loop-i.i all c.loop-i.states.items c.loop-i.in_states.items c.loop-i.depth c.loop-i.pieces c.loop-i.invariant
    (get_or c.as_slice.result.now (length c.args.operations.now) Unreached) c.in-Ok-in_state_at.state e c.in-Ok-in_state_at.ensures in
    let empty : (length (placed_in c.args.operations.now) == 0) ≡ c.is_empty.result = ap (λ (n : ℕ). n == 0) long
    ∙ sym c.is_empty.ensures in
    end_good c.args.kind (placed_in c.args.operations.now) c.args.end c.requires.laid
    (given_of c.args.given) c.loop-i.i all c.loop-i.states.items c.loop-i.in_states.items c.loop-i.depth c.loop-i.pieces c.loop-i.invariant
    c.in-Ok-in_state_at.state one (subst (λ (b : Bool). HasResult c.args.kind b c.in-Ok-in_state_at.state) (sym empty)
    (sym c.has_result.ensures ∙ c.if-not-has_result.false))

pub returns-clause-states : goal.returns-clause-states
returns-clause-states c =
    let all : c.loop-i.i ≡ length (placed_in c.args.operations.now) =
    omega (arith, placed_in_length c.args.operations.now, c.loop-i-test.false, c.loop-i.auto.i-end) in
    end_states c.args.kind (placed_in c.args.operations.now) c.args.end c.requires.laid
    (given_of c.args.given) c.loop-i.i all c.loop-i.states.items c.loop-i.in_states.items c.loop-i.depth c.loop-i.pieces c.loop-i.invariant

pub returns-clause-depth : goal.returns-clause-depth
returns-clause-depth c =
    let all : c.loop-i.i ≡ length (placed_in c.args.operations.now) =
    omega (arith, placed_in_length c.args.operations.now, c.loop-i-test.false, c.loop-i.auto.i-end) in
    end_depth c.args.kind (placed_in c.args.operations.now) c.args.end c.requires.laid
    (given_of c.args.given) c.loop-i.i all c.loop-i.states.items c.loop-i.in_states.items c.loop-i.depth c.loop-i.pieces c.loop-i.invariant

pub returns-clause-known : goal.returns-clause-known
returns-clause-known c =
    let all : c.loop-i.i ≡ length (placed_in c.args.operations.now) =
    omega (arith, placed_in_length c.args.operations.now, c.loop-i-test.false, c.loop-i.auto.i-end) in
    record {
      each = λ k x h s r. end_given c.args.kind (placed_in c.args.operations.now) c.args.end c.requires.laid
          (given_of c.args.given) c.loop-i.i all c.loop-i.states.items c.loop-i.in_states.items c.loop-i.depth c.loop-i.pieces
          c.loop-i.invariant k x h s r;
    }

pub returns-in-Err-clause-inside : goal.returns-in-Err-clause-inside
returns-in-Err-clause-inside c =
    let le = place_le (placed_in c.args.operations.now) c.args.end c.requires.laid c.loop-i.i in
    let at = ap (λ (f : Fault). f.at) c.refusal.ensures in
    omega (arith, le, at, c.place_of_operation-in-Err.ensures)
