use Rattle.std.proofs.Common.{rules, sym, subst}
use Rattle.std.specs.List.{All}
use Rattle.std.proofs.lemmas.List.Elements.{All-head, All-rest}
use Rattle.dw_stack.specs.Located.{LocatedExpression, located_of}
use Rattle.dw_check.specs.Lookups.{IsShowable}
use Rattle.dw_check.proofs.Showing.{shown_none, shown_next, shown_front, shown_all}
use Rattle.dw_check.proofs.Writing.{writes_front}
use Rattle.dw_check.proofs.locations.write_other_locations.Goals as goal

pub loop-offset-init : goal.loop-offset-init
loop-offset-init g c = record {
  same = search rules;
  runs = search rules;
  showable = rw (c.into_iter-offset-iterator.ensures.into_iter_gives) c.requires.showable;
  shown = λ gs given. rw (c.into_iter-offset-iterator.ensures.into_iter_gives) (shown_none gs c.args.locations _);
}

pub write_location-requires-clause-showable : goal.write_location-requires-clause-showable
write_location-requires-clause-showable g c =
    let P = λ (x : LocatedExpression). IsShowable c.args.out.now.size x in
    let here = All-head P (located_of (c.in-Some.offset, c.in-Some.checked)) c.next.new.self
    (subst (All P) c.in-Some.ensures.steps c.loop-offset.invariant.showable) in
    subst (λ s. IsShowable s (located_of (c.in-Some.offset, c.in-Some.checked))) (sym c.loop-offset.invariant.same.1) here

pub loop-offset-preserved : goal.loop-offset-preserved
loop-offset-preserved g c = record {
  same = search rules;
  runs = search rules;
  showable = All-rest (λ x. IsShowable c.args.out.now.size x) (located_of (c.in-Some.offset, c.in-Some.checked)) c.next.new.self _
      c.in-Some.ensures.steps c.loop-offset.invariant.showable;
  shown = λ gs given.
      let own = c.in_ok-write_location.ensures.written gs given in
      shown_next gs c.args.locations _ c.next.new.self (located_of (c.in-Some.offset, c.in-Some.checked)) own.0 _ _ _
      c.in-Some.ensures.steps (c.loop-offset.invariant.shown gs given) own.1 own.2;
}

pub returns-in_err-write_location-clause-written : goal.returns-in_err-write_location-clause-written
returns-in_err-write_location-clause-written g c = λ gs given.
    let own = c.in_err-write_location.ensures.written gs given in
    let all =
    shown_front c.args.out.now.size gs c.args.locations _ c.next.new.self (located_of (c.in-Some.offset, c.in-Some.checked)) own.0 _ _ _
    c.in-Some.ensures.steps c.loop-offset.invariant.showable (c.loop-offset.invariant.shown gs given) own.1 own.2 in
    (all.0, all.1, writes_front _ _ _ _ c.from_residual.ensures.0 all.2)

pub returns-clause-written : goal.returns-clause-written
returns-clause-written g c = λ gs given.
    shown_all gs c.args.locations _ _ _ c.in-None.ensures.steps.0 (c.loop-offset.invariant.shown gs given)
