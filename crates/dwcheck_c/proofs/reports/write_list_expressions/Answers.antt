use Rattle.std.proofs.Common.{◌++◌, ◌∷◌, [], ℕ, List, inl, inr, map, subst, sym}
use Rattle.std.proofs.lemmas.List.{map-append}
use Rattle.dw_stack.specs.Located.{LocatedExpression, located_of}
use Rattle.dw_stack.specs.declared.checked.CheckedExpression.{CheckedExpression}
use Rattle.dw_c_types.specs.declared.fault.TheConstants.{IN_LISTS}
use Rattle.dw_c_types.proofs.Putting.{comes}
use Rattle.dwcheck_c.specs.Reports.{AreShown}
use Rattle.dwcheck_c.proofs.Shown.{put-next, put-none, shown-next}
use Rattle.dwcheck_c.proofs.reports.write_list_expressions.Goals as goal

pub loop-offset-preserved-then-count-slots : goal.loop-offset-preserved-then-count-slots
loop-offset-preserved-then-count-slots c =
    let yielded = c.loop-offset.yielded in let slots = c.loop-offset.slots in let count = c.loop-offset.count in
    let item : ℕ × CheckedExpression = (c.in-Some.offset, c.in-Some.checked) in
    let out = c.c_expression_of-shown.result in
    let keeps = c.loop-offset.invariant in
    record {
      whole = comes located_of yielded item _ _ _ keeps.whole (c.in-Some.ensures).steps;
      shown = λ before old is from.
          let k = keeps.shown before old is from in
          let next = put-next before k.0 old slots count out k.2 k.3 c.if-count-slots.true in (
            k.0 ++ out ∷ [],
            subst (λ (l : List LocatedExpression). AreShown IN_LISTS l (k.0 ++ out ∷ [])) (sym (map-append located_of yielded (item ∷ [])))
                (shown-next IN_LISTS (map located_of yielded) k.0 (located_of item) out k.1 c.c_expression_of-shown.ensures),
            next.0,
            inl next.1,
          );
    }

pub loop-offset-preserved : goal.loop-offset-preserved
loop-offset-preserved c =
    let yielded = c.loop-offset.yielded in let slots = c.loop-offset.slots in let count = c.loop-offset.count in
    let item : ℕ × CheckedExpression = (c.in-Some.offset, c.in-Some.checked) in
    let out = c.c_expression_of-shown.result in
    let keeps = c.loop-offset.invariant in
    record {
      whole = comes located_of yielded item _ _ _ keeps.whole (c.in-Some.ensures).steps;
      shown = λ before old is from.
          let k = keeps.shown before old is from in
          let next = put-none before k.0 old slots count out k.2 k.3 c.if-count-slots.false in (
            k.0 ++ out ∷ [],
            subst (λ (l : List LocatedExpression). AreShown IN_LISTS l (k.0 ++ out ∷ [])) (sym (map-append located_of yielded (item ∷ [])))
                (shown-next IN_LISTS (map located_of yielded) k.0 (located_of item) out k.1 c.c_expression_of-shown.ensures),
            next.0,
            inr (c.if-count-slots.false, next.1),
          );
    }
