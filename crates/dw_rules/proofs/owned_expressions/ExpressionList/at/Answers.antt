use Rattle.std.proofs.Common.{◌≡◌, List, ℕ, ◌+◌, ◌-◌, ◌<◌, length, take, drop, ◌≤◌, Option, Some, rules, sym, ap, subst, ◌∙◌, arith}
use Rattle.std.specs.Prelude.{Ok, Err}
use Rattle.std.specs.List.Sorted.{IsBinarySearchResult}
use Rattle.std.specs.Ordering.{nat_cmp}
use Rattle.std.proofs.lemmas.List.Sorted.{answers_always}
use Rattle.dw_bytes.specs.declared.target.Target.{Target}
use Rattle.dw_ops.specs.Views.{bytes_of}
use Rattle.dw_frame.specs.Bounds.{Ascends}
use Rattle.dw_stack.specs.Expressions.{Checked, IsChecked}
use Rattle.dw_stack.specs.Certificates.{checked_of}
use Rattle.dw_stack.specs.Located.{LocatedExpression}
use Rattle.dw_rules.specs.declared.owned_expressions.OwnedExpression.{OwnedExpression}
use Rattle.dw_rules.specs.Expressions.{expression_at}
use Rattle.dw_rules.specs.ExpressionOrder.{expression_offset}
use Rattle.dw_rules.specs.OwnedExpressions.{bytes_in, all_owned, IsOwned}
use Rattle.dw_rules.proofs.ExpressionBytes.{offset_in, owned-at, owned-found, owned-absent}
use Rattle.dw_rules.proofs.owned_expressions.ExpressionList.at.Goals as goal

-- the expression that is returned has the bytes that its stored entry refers to
lent : (c : goal.After-new) → bytes_of c.new.result ≡ bytes_in c.self.inside.bytes.items c.index-kept.result.now
lent c =
    let k = c.index-kept.result.now in
    let many : k.start + k.length - k.start ≡ k.length = omega arith in
    c.new.ensures.bytes
    ∙ ap (λ (l : List ℕ). take (k.start + k.length - k.start) (drop k.start l)) c.deref-in-Ok.ensures.value
    ∙ ap (λ (n : ℕ). take n (drop k.start c.self.inside.bytes.items)) many

pub new-requires-in-Ok : goal.new-requires-in-Ok
new-requires-in-Ok c =
    let k = c.index-kept.result.now in
    let inside : c.in-Ok.place < length c.self.inside.kept.items =
    omega (arith, c.in-Ok.ensures.bound, ap (λ (l : List OwnedExpression). length l) c.deref.ensures.value) in
    let one : IsOwned c.self.inside.bytes.items k =
    owned-at c.self.inside.bytes.items c.self.inside.kept.items c.in-Ok.place k c.self.invariant.owned inside (sym c.index-kept.ensures) in
    subst (λ (t : Target). IsChecked (record { kind = k.kind; target = t; bytes = bytes_of c.new.result; depth = k.depth; count = k.count }))
    (sym c.new.ensures.target)
    (subst (λ (l : List ℕ). IsChecked (record { kind = k.kind; target = k.target; bytes = l; depth = k.depth; count = k.count }))
    (sym (lent c)) one.checked)

pub returns-in-Ok : goal.returns-in-Ok
returns-in-Ok c =
    let bytes = c.self.inside.bytes.items in
    let xs = c.self.inside.kept.items in
    let place = c.in-Ok.place in
    let k = c.index-kept.result.now in
    let up : Ascends expression_offset (all_owned bytes xs) = subst (Ascends expression_offset) (sym c.self.view_is) c.requires in
    let at_deref = c.in-Ok.ensures.position offset_in (answers_always _ _ _ (λ f a r g called. search rules)) in
    let by_key : IsBinarySearchResult (λ y. nat_cmp (offset_in y) c.args.offset) xs (Ok place) =
    subst (λ (l : List OwnedExpression). IsBinarySearchResult (λ y. nat_cmp (offset_in y) c.args.offset) l (Ok place)) c.deref.ensures.value
    at_deref in
    let inside : place < length xs = omega (arith, c.in-Ok.ensures.bound, ap (λ (l : List OwnedExpression). length l) c.deref.ensures.value) in
    let found = owned-found bytes xs c.args.offset place k up inside by_key (sym c.index-kept.ensures) in
    let with : ℕ → Checked → Option LocatedExpression =
    λ n x. Some (record { offset = n; kind = x.kind; target = x.target; bytes = x.bytes }) in
    let checked : Checked =
    record { kind = k.kind; target = k.target; bytes = bytes_in bytes k; depth = k.depth; count = k.count } in
    let it : checked_of c.new-in-Ok.result ≡ checked =
    c.new-in-Ok.ensures
    ∙ ap (λ (t : Target). let x : Checked =
    record { kind = k.kind; target = t; bytes = bytes_of c.new.result; depth = k.depth; count = k.count } in x) c.new.ensures.target
    ∙ ap (λ (l : List ℕ). let x : Checked =
    record { kind = k.kind; target = k.target; bytes = l; depth = k.depth; count = k.count } in x) (c.new.ensures.bytes
    ∙ ap (λ (l : List ℕ). take (k.start + k.length - k.start) (drop k.start l)) c.deref-in-Ok.ensures.value
    ∙ ap (λ (n : ℕ). take n (drop k.start bytes)) (let many : k.start + k.length - k.start ≡ k.length = omega arith in many)) in
    ap (λ (l : List LocatedExpression). expression_at l c.args.offset) (sym c.self.view_is) ∙ found.0
    ∙ ap (λ (n : ℕ). with n checked) found.1 ∙ ap (λ (x : Checked). with c.args.offset x) (sym it)

pub returns-in-Err : goal.returns-in-Err
returns-in-Err c =
    let bytes = c.self.inside.bytes.items in
    let xs = c.self.inside.kept.items in
    let place = c.in-Err.field-0 in
    let up : Ascends expression_offset (all_owned bytes xs) = subst (Ascends expression_offset) (sym c.self.view_is) c.requires in
    let at_deref = c.in-Err.ensures.position offset_in (answers_always _ _ _ (λ f a r g called. search rules)) in
    let by_key : IsBinarySearchResult (λ y. nat_cmp (offset_in y) c.args.offset) xs (Err place) =
    subst (λ (l : List OwnedExpression). IsBinarySearchResult (λ y. nat_cmp (offset_in y) c.args.offset) l (Err place)) c.deref.ensures.value
    at_deref in
    let inside : place ≤ length xs = omega (arith, c.in-Err.ensures.bound, ap (λ (l : List OwnedExpression). length l) c.deref.ensures.value) in
    ap (λ (l : List LocatedExpression). expression_at l c.args.offset) (sym c.self.view_is)
    ∙ owned-absent bytes xs c.args.offset place up inside by_key
