use Rattle.std.proofs.Common.{◌∙◌, ap, refl, sym, Some}
use Rattle.std.specs.Option.{option_to_list}
use Rattle.dw_c_types.proofs.FirstTwice.{none_before_next, pointer_is_kept, pointer_is_new, twice_at_place, without_pointer}
use Rattle.dw_c_types.proofs.state.fault_of_abi.Goals as goal

pub loop-place-init : goal.loop-place-init
loop-place-init c = refl

pub returns-then-is_among : goal.returns-then-is_among
returns-then-is_among c =
    sym (twice_at_place c.args.kept.now c.args.stack_pointer c.loop-place.place c.if-kept-gt-MAX_KEPT.false
    c.loop-place.invariant c.loop-place-test.true (sym c.is_among.ensures ∙ c.if-is_among.true)
    ∙ ap Some (sym c.twice_at.ensures))

pub loop-place-preserved : goal.loop-place-preserved
loop-place-preserved c =
    none_before_next c.args.kept.now (option_to_list c.args.stack_pointer) c.loop-place.place c.loop-place.invariant
    c.loop-place-test.true (sym c.is_among.ensures ∙ c.if-is_among.false)

pub returns-then-is_among-2 : goal.returns-then-is_among-2
returns-then-is_among-2 c =
    sym (pointer_is_kept c.args.kept.now c.args.stack_pointer c.loop-place.place c.in-Some.number c.if-kept-gt-MAX_KEPT.false
    c.loop-place.invariant c.loop-place-test.false c.in-Some.is (sym c.is_among-in-Some.ensures ∙ c.if-is_among-2.true)
    ∙ ap Some (sym c.twice_at-then-is_among-2.ensures))

pub returns-else-is_among-2 : goal.returns-else-is_among-2
returns-else-is_among-2 c =
    sym (pointer_is_new c.args.kept.now c.args.stack_pointer c.loop-place.place c.in-Some.number c.if-kept-gt-MAX_KEPT.false
    c.loop-place.invariant c.loop-place-test.false c.in-Some.is (sym c.is_among-in-Some.ensures ∙ c.if-is_among-2.false))

pub returns-in-None : goal.returns-in-None
returns-in-None c =
    sym (without_pointer c.args.kept.now c.args.stack_pointer c.loop-place.place c.if-kept-gt-MAX_KEPT.false
    c.loop-place.invariant c.loop-place-test.false c.in-None.is)
