use Rattle.std.proofs.Common.{◌≡◌, ◌∙◌, ℕ, ◌+◌, [], cond, Bool, length, sym, ap, subst, arith}
use Rattle.std.specs.Prelude.{max}
use Rattle.dw_ops.specs.declared.expression.Expression.{Expression}
use Rattle.dw_ops.specs.Views.{operation_of}
use Rattle.dw_stack.specs.declared.state.Kind.{Kind}
use Rattle.dw_stack.specs.declared.state.StackState.{StackState}
use Rattle.dw_stack.specs.Expressions.{Checked, IsChecked}
use Rattle.dw_stack.proofs.paths.Unbranched.{CheckedAlone, begun, further, checked}
use Rattle.dw_stack.proofs.branchless_check.check_branchless.Goals.{then-left, else-left}
use Rattle.dw_stack.proofs.branchless_check.check_branchless.Goals as goal

-- `CheckedAlone` still holds if equal values replace its arguments
renamed : (kind : Kind) (e : Expression) (at count : ℕ) (s t : StackState) (d f p q : ℕ) → t ≡ s → f ≡ d → q ≡ p
    → CheckedAlone kind e at count s d p → CheckedAlone kind e at count t f q
renamed kind e at count s t d f p q state depth pieces j =
    subst (λ (x : StackState). CheckedAlone kind e at count x f q) (sym state)
    (subst (λ (n : ℕ). CheckedAlone kind e at count s n q) (sym depth)
    (subst (λ (n : ℕ). CheckedAlone kind e at count s d n) (sym pieces) j))

pub loop-at-init : goal.loop-at-init
loop-at-init c = ([], begun c.args.kind c.args.expression c.start_state-state.result c.start_state-state.ensures)

pub loop-at-preserved : goal.loop-at-preserved
loop-at-preserved c =
    let more = further c.args.kind c.args.expression c.loop-at.at c.loop-at.count c.loop-at.state c.loop-at.depth c.loop-at.pieces
    c.loop-at.invariant.0 (operation_of c.in-Ok.operation) c.in-Ok.next c.in_ok-left.left.height c.loop-at.invariant.1 c.in-Ok.ensures.exact
    c.in-Ok.ensures.forward.0 c.in-Ok.ensures.forward.1 c.in_ok-left.ensures.straight c.in_ok-left.ensures.suits in
    renamed c.args.kind c.args.expression c.in-Ok.next (c.loop-at.count + 1) _ c.in_ok-left.left.state _ c.max-depth.result _
    (c.loop-at.pieces + c.if-left.pieces) c.in_ok-left.ensures.state
    (c.max-depth.ensures ∙ ap (λ (n : ℕ). max n c.in_ok-left.left.height) c.max.ensures)
    (ap (λ (n : ℕ). c.loop-at.pieces + n) (elim c.if-left.branch [
      | then-left w ↦ w.pieces-is
          ∙ sym (ap (λ (b : Bool). cond b 1 0) w.if-left.true)
      | else-left w ↦
          w.pieces-is ∙ sym (ap (λ (b : Bool). cond b 1 0) w.if-left.false)
    ])
    ∙ ap (λ (b : Bool). c.loop-at.pieces + cond b 1 0) c.in_ok-left.ensures.piece)
    (_, more)

pub new-requires : goal.new-requires
new-requires c =
    let end = ap length c.bytes.ensures in
    checked c.args.kind c.args.expression c.loop-at.at c.loop-at.count c.loop-at.state c.loop-at.depth c.loop-at.pieces c.loop-at.invariant.0
    c.loop-at.invariant.1 (omega (arith, end, c.loop-at-test.false)) (sym c.has_result.ensures ∙ c.if-not-has_result.false)

pub returns-clause-checked : goal.returns-clause-checked
returns-clause-checked c =
    let end = ap length c.bytes.ensures in
    subst (λ (x : Checked). IsChecked x) (sym c.new.ensures)
    (checked c.args.kind c.args.expression c.loop-at.at c.loop-at.count c.loop-at.state c.loop-at.depth c.loop-at.pieces c.loop-at.invariant.0
    c.loop-at.invariant.1 (omega (arith, end, c.loop-at-test.false)) (sym c.has_result.ensures ∙ c.if-not-has_result.false))
