use Rattle.std.proofs.Common.{◌∙◌, ◌≤◌, ◌∷◌, [], ℕ, ap, arith, length, map, sym}
use Rattle.std.specs.Prelude.{slice_set}
use Rattle.std.proofs.lemmas.List.{length-map, map-append}
use Rattle.dw_stack.specs.Located.{located_of}
use Rattle.dw_stack.specs.declared.checked.CheckedExpression.{CheckedExpression}
use Rattle.dw_c_types.specs.Locations.{clocation_of}
use Rattle.dw_c_types.specs.Slots.{put_into}
use Rattle.dw_c_types.proofs.Putting.{comes, one_more, puts_no_more, puts_shown}
use Rattle.dw_c_types.proofs.location.write_locations.Goals as goal

pub returns-then-count-slots-clause-written : goal.returns-then-count-slots-clause-written
returns-then-count-slots-clause-written c =
    let before = map located_of c.loop-offset.yielded in
    let left = c.loop-offset.offset-iterator in
    let keeps = c.loop-offset.invariant in
    let slots = c.args.slots.now in
    let full : length slots ≤ length (map clocation_of before) =
    omega (arith, c.if-count-slots.true, c.loop-offset.auto.slots, keeps.counted, length-map before clocation_of) in
    keeps.written ∙ sym (puts_no_more (map clocation_of before) (map clocation_of left) slots full)
    ∙ ap (λ l. put_into l slots) (sym (map-append clocation_of before left)) ∙ ap (λ l. put_into (map clocation_of l) slots) keeps.whole

pub loop-offset-preserved : goal.loop-offset-preserved
loop-offset-preserved c =
    let count = c.loop-offset.count in
    let before = map located_of c.loop-offset.yielded in
    let item : ℕ × CheckedExpression = (c.in-Some.offset, c.in-Some.checked) in
    let keeps = c.loop-offset.invariant in
    let slots = c.args.slots.now in
    record {
      whole = comes located_of c.loop-offset.yielded item _ _ _ keeps.whole (c.in-Some.ensures).steps;
      written = ap (λ x. slice_set c.loop-offset.slots count x) c.c_location_of.ensures
          ∙ ap (λ l. slice_set l count (clocation_of (located_of item))) keeps.written
          ∙ puts_shown clocation_of before slots count (located_of item) (keeps.counted ∙ sym (length-map before clocation_of))
          ∙ ap (λ l. put_into (map clocation_of l) slots) (sym (map-append located_of c.loop-offset.yielded (item ∷ [])));
      counted = one_more located_of c.loop-offset.yielded item count keeps.counted;
      few = omega (arith, c.if-count-slots.false, c.loop-offset.auto.slots);
    }
