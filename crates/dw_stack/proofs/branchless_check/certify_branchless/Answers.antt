use Rattle.std.proofs.Common.{◌≡◌, ◌∙◌, ℕ, ◌+◌, [], ◌∷◌, ◌++◌, List, cond, Bool, length, sym, ap, subst, arith, rules}
use Rattle.std.specs.Prelude.{max}
use Rattle.dw_ops.specs.declared.expression.Expression.{Expression}
use Rattle.dw_ops.specs.Views.{operation_of}
use Rattle.dw_stack.specs.declared.state.Kind.{Kind}
use Rattle.dw_stack.specs.declared.state.State.{State}
use Rattle.dw_stack.specs.declared.state.StackState.{StackState}
use Rattle.dw_stack.specs.States.{at_offset}
use Rattle.dw_stack.specs.Expressions.{AreStatesOf, Checked, IsChecked}
use Rattle.dw_stack.proofs.paths.Unbranched.{CheckedSoFar, begun, further, checked, states_checked}
use Rattle.dw_stack.proofs.branchless_check.certify_branchless.Goals.{then-left, else-left}
use Rattle.dw_stack.proofs.branchless_check.certify_branchless.Goals as goal

-- `CheckedSoFar` still holds if equal values replace its arguments
renamed : (kind : Kind) (e : Expression) (at count : ℕ) (s t : StackState) (d f p q : ℕ) (xs ys : List State) → t ≡ s → f ≡ d → q ≡ p
    → ys ≡ xs → CheckedSoFar kind e at count s d p xs → CheckedSoFar kind e at count t f q ys
renamed kind e at count s t d f p q xs ys state depth pieces states j =
    subst (λ (x : StackState). CheckedSoFar kind e at count x f q ys) (sym state)
    (subst (λ (n : ℕ). CheckedSoFar kind e at count s n q ys) (sym depth)
    (subst (λ (n : ℕ). CheckedSoFar kind e at count s d n ys) (sym pieces)
    (subst (λ (l : List State). CheckedSoFar kind e at count s d p l) (sym states) j)))

pub loop-at-init : goal.loop-at-init
loop-at-init c =
    subst (λ (l : List State). CheckedSoFar c.args.kind c.args.expression 0 0 c.start_state-state.result c.start_state-state.result.height 0 l)
    (sym c.new-states.ensures.items) (begun c.args.kind c.args.expression c.start_state-state.result c.start_state-state.ensures)

pub loop-at-preserved : goal.loop-at-preserved
loop-at-preserved c =
    let pushed : c.push.new.self.items ≡ c.loop-at.states.items ++ at_offset c.loop-at.at c.loop-at.state ∷ [] = search rules in
    let more = further c.args.kind c.args.expression c.loop-at.at c.loop-at.count c.loop-at.state c.loop-at.depth c.loop-at.pieces
    c.loop-at.states.items (operation_of c.in-Ok.operation) c.in-Ok.next c.in_ok-left.left.height c.loop-at.invariant c.in-Ok.ensures.exact
    c.in-Ok.ensures.forward.0 c.in-Ok.ensures.forward.1 c.in_ok-left.ensures.straight c.in_ok-left.ensures.suits in
    renamed c.args.kind c.args.expression c.in-Ok.next (c.loop-at.count + 1) _ c.in_ok-left.left.state _ c.max-depth.result _
    (c.loop-at.pieces + c.if-left.pieces) _ c.push.new.self.items c.in_ok-left.ensures.state
    (c.max-depth.ensures ∙ ap (λ (n : ℕ). max n c.in_ok-left.left.height) c.max.ensures)
    (ap (λ (n : ℕ). c.loop-at.pieces + n) (elim c.if-left.branch [
      | then-left w ↦ w.pieces-is
          ∙ sym (ap (λ (b : Bool). cond b 1 0) w.if-left.true)
      | else-left w ↦
          w.pieces-is ∙ sym (ap (λ (b : Bool). cond b 1 0) w.if-left.false)
    ])
    ∙ ap (λ (b : Bool). c.loop-at.pieces + cond b 1 0) c.in_ok-left.ensures.piece)
    pushed more

pub new-requires : goal.new-requires
new-requires c =
    let end = ap length c.bytes.ensures in
    checked c.args.kind c.args.expression c.loop-at.at c.loop-at.count c.loop-at.state c.loop-at.depth c.loop-at.pieces c.loop-at.states.items
    c.loop-at.invariant (omega (arith, end, c.loop-at-test.false)) (sym c.has_result.ensures ∙ c.if-not-has_result.false)

pub returns-clause-checked : goal.returns-clause-checked
returns-clause-checked c =
    let end = ap length c.bytes.ensures in
    subst (λ (x : Checked). IsChecked x) (sym c.new.ensures)
    (checked c.args.kind c.args.expression c.loop-at.at c.loop-at.count c.loop-at.state c.loop-at.depth c.loop-at.pieces
    c.loop-at.states.items c.loop-at.invariant (omega (arith, end, c.loop-at-test.false))
    (sym c.has_result.ensures ∙ c.if-not-has_result.false))

pub returns-clause-states : goal.returns-clause-states
returns-clause-states c =
    let end = ap length c.bytes.ensures in
    states_checked c.args.kind c.args.expression c.loop-at.at c.loop-at.count c.loop-at.state c.loop-at.depth c.loop-at.pieces
    c.loop-at.states.items c.loop-at.invariant (omega (arith, end, c.loop-at-test.false))

pub invariant_of-result : goal.invariant_of-result
invariant_of-result c =
    let end = ap length c.bytes.ensures in
    let are = states_checked c.args.kind c.args.expression c.loop-at.at c.loop-at.count c.loop-at.state c.loop-at.depth c.loop-at.pieces
    c.loop-at.states.items c.loop-at.invariant (omega (arith, end, c.loop-at-test.false)) in
    record {
      certified = subst (λ (x : Checked). ∥ AreStatesOf x.kind x.target x.bytes c.loop-at.states.items ∥₁) (sym c.new.ensures) ∣ are ∣₁;
    }
