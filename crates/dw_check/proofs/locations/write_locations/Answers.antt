use Rattle.std.proofs.Common.{◌++◌, ◌∷◌, List, refl, sym, subst}
use Rattle.std.specs.List.{All}
use Rattle.std.proofs.lemmas.List.Elements.{All-head, All-rest}
use Rattle.dw_stack.specs.Located.{LocatedExpression, located_of}
use Rattle.dw_check.specs.Text.{expression_offset_line}
use Rattle.dw_check.specs.Lookups.{IsShowable, ShowsLocations}
use Rattle.dw_check.proofs.Showing.{shown_none, shown_front}
use Rattle.dw_check.proofs.Writing.{writes_front, writes_then}
use Rattle.dw_check.proofs.locations.write_locations.Goals as goal

pub write_location-requires-clause-showable : goal.write_location-requires-clause-showable
write_location-requires-clause-showable g c =
    let P = λ (x : LocatedExpression). IsShowable c.args.out.now.size x in
    All-head P (located_of (c.in-Some.offset, c.in-Some.checked)) c.next.new.self
    (subst (All P) c.in-Some.ensures.steps c.requires.showable)

pub returns-in_err-write_location-in-Some-clause-written : goal.returns-in_err-write_location-in-Some-clause-written
returns-in_err-write_location-in-Some-clause-written g c = λ gs given.
    let x = located_of (c.in-Some.offset, c.in-Some.checked) in
    let rest = c.next.new.self in
    let own = c.in_err-write_location-in-Some.ensures.written gs given in
    let fine = subst (All (λ (y : LocatedExpression). IsShowable c.args.out.now.size y)) c.in-Some.ensures.steps c.requires.showable in
    let all =
    shown_front c.args.out.now.size gs (x ∷ rest) (x ∷ rest) rest x own.0 _ _ _ refl fine (shown_none gs (x ∷ rest) _) own.1 own.2 in (
      all.0,
      subst (λ (xs : List LocatedExpression). ShowsLocations gs xs all.0) (sym c.in-Some.ensures.steps) all.1,
      writes_front _ _ _ _ c.from_residual.ensures.0 all.2,
    )

pub write_other_locations-requires-clause-showable : goal.write_other_locations-requires-clause-showable
write_other_locations-requires-clause-showable g c =
    let rest = All-rest (λ (x : LocatedExpression). IsShowable c.args.out.now.size x)
    (located_of (c.in-Some.offset, c.in-Some.checked)) c.next.new.self _ c.in-Some.ensures.steps c.requires.showable in
    rw c.in_ok-write_location-in-Some.ensures.same.1 rest

pub returns-in_ok-write_location-in-Some-clause-written : goal.returns-in_ok-write_location-in-Some-clause-written
returns-in_ok-write_location-in-Some-clause-written g c = λ gs given.
    let own = c.in_ok-write_location-in-Some.ensures.written gs given in
    let others = c.write_other_locations.ensures.written gs given in
    let line = expression_offset_line c.in-Some.offset ++ own.0 in (
      line ++ others.0,
      subst (λ (xs : List LocatedExpression). ShowsLocations gs xs (line ++ others.0)) (sym c.in-Some.ensures.steps)
          (own.0, others.0, refl, own.1, others.1),
      writes_then _ _ _ _ line others.0 own.2 others.2,
    )
