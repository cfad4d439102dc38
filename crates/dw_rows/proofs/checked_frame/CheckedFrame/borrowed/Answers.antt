use Rattle.std.proofs.Common.{◌≡◌, ℕ, List, subst, sym, ap, take, drop, ◌∙◌}
use Rattle.std.proofs.lemmas.List.{take-map, drop-map}
use Rattle.dw_stack.specs.declared.checked.CheckedExpression.{CheckedExpression}
use Rattle.dw_stack.specs.Located.{located_of, all_located}
use Rattle.dw_frame.specs.Bounds.{Ascends}
use Rattle.dw_rules.specs.ExpressionOrder.{expression_offset}
use Rattle.dw_rows.proofs.expressions.Lending.{cies-in-order, fdes-in-order}
use Rattle.dw_rows.proofs.checked_frame.CheckedFrame.borrowed.Goals as goal

pub new-requires-clause-cies : goal.new-requires-clause-cies
new-requires-clause-cies c =
    let items = c.self.inside.expressions.items in
    let n = c.self.inside.in_cies in
    let same : all_located c.split_at.result.0.now ≡ take n (all_located items) =
    ap all_located (c.split_at.ensures.front ∙ ap (λ (l : List (ℕ × CheckedExpression)). take n l) c.deref.ensures.value)
    ∙ sym (take-map located_of n items) in
    let up : Ascends expression_offset (take n (all_located items)) =
    rw (c.self.invariant.all, c.self.invariant.in_cies) (cies-in-order _ c.self.invariant.checked) in
    subst (Ascends expression_offset) (sym same) up

pub new-requires-clause-fdes : goal.new-requires-clause-fdes
new-requires-clause-fdes c =
    let items = c.self.inside.expressions.items in
    let n = c.self.inside.in_cies in
    let same : all_located c.split_at.result.1.now ≡ drop n (all_located items) =
    ap all_located (c.split_at.ensures.back ∙ ap (λ (l : List (ℕ × CheckedExpression)). drop n l) c.deref.ensures.value)
    ∙ sym (drop-map located_of n items) in
    let up : Ascends expression_offset (drop n (all_located items)) =
    rw (c.self.invariant.all, c.self.invariant.in_cies) (fdes-in-order _ c.self.invariant.checked) in
    subst (Ascends expression_offset) (sym same) up
