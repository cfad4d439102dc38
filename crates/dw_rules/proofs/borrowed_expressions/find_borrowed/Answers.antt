use Rattle.std.proofs.Common.{◌≡◌, ℕ, Option, Some, rules, sym, ap, ◌∙◌, get_or}
use Rattle.std.proofs.lemmas.List.Sorted.{answers_always}
use Rattle.dw_stack.specs.declared.checked.CheckedExpression.{CheckedExpression}
use Rattle.dw_stack.specs.Located.{LocatedExpression, located_of, all_located}
use Rattle.dw_rules.specs.ExpressionOrder.{expression_offset}
use Rattle.dw_rules.proofs.Search.{searched-found, searched-none, ascending-same}
use Rattle.dw_rules.proofs.Elements.{ascending-back, contains-map, contained-map}
use Rattle.dw_rules.proofs.ExpressionsByOffset.{found-at, absent-at}
use Rattle.dw_rules.proofs.borrowed_expressions.find_borrowed.Goals as goal

abbrev some : LocatedExpression → Option LocatedExpression
some e = Some e

abbrev offset_in : ℕ × CheckedExpression → ℕ
offset_in x = x.0

pub returns-in-Ok : goal.returns-in-Ok
returns-in-Ok c =
    let xs = c.args.expressions.now in
    let place = c.in-Ok.place in
    let facts = c.in-Ok.ensures in
    let by_key = facts.position offset_in (answers_always _ _ _ (λ f a r g called. search rules)) in
    let x = c.index-expressions-place.result in
    let here : get_or xs place x ≡ x = sym c.index-expressions-place.is in
    let found = searched-found offset_in xs c.args.offset x place facts.bound by_key in
    let at_x : offset_in x ≡ c.args.offset = ap offset_in (sym here) ∙ found.1 in
    let among = contains-map located_of xs x (place, facts.bound, here) in
    let only = found-at (all_located xs) (located_of x) c.args.offset among at_x
    (λ g g_in same. ascending-same expression_offset (all_located xs) c.requires g (located_of x) g_in among (same ∙ sym at_x)) in
    only ∙ (ap (λ n. some (located_of (n, x.1))) at_x
    ∙ ap (λ (y : ℕ × CheckedExpression). some (located_of (c.args.offset, y.1))) (sym here))

pub returns-in-Err : goal.returns-in-Err
returns-in-Err c =
    let xs = c.args.expressions.now in
    let facts = c.in-Err.ensures in
    let by_key = facts.position offset_in (answers_always _ _ _ (λ f a r g called. search rules)) in
    let none = searched-none offset_in xs
    (ascending-back located_of expression_offset xs c.requires) c.args.offset c.in-Err.field-0 facts.bound by_key in
    absent-at (all_located xs) c.args.offset
    (λ e among same. let kept = contained-map located_of xs e among in none kept.0 kept.1 (ap expression_offset kept.2 ∙ same))
