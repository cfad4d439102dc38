use Rattle.std.proofs.Common.{◌∙◌, List, refl, sym, subst, codes}
use Rattle.std.proofs.lemmas.List.Elements.{All-from_recursion}
use Rattle.dw_loclists.specs.Locations.{locations_of}
use Rattle.dw_stack.specs.Located.{LocatedExpression}
use Rattle.dw_check.specs.Lookups.{IsShowable, ShowsLocations, ShowsList}
use Rattle.dw_check.proofs.Found.{no_list_at, some_list_at}
use Rattle.dw_check.proofs.GoodLocations.{locations_show}
use Rattle.dw_check.proofs.locations.write_list_lookup.Goals as goal

pub write_locations-requires-clause-showable : goal.write_locations-requires-clause-showable
write_locations-requires-clause-showable g c =
    let s = c.args.lists.now in
    let lookup = c.args.lookup in
    let l = some_list_at s lookup.list c.in-Some.ensures.1 in
    let is = c.locations_at-locations.ensures l.0 l.2 (l.3 ∙ sym c.in-Some.ensures.0) in
    let fine = All-from_recursion (λ (x : LocatedExpression). IsShowable s.target.address_size x)
    (locations_of l.0 lookup.base lookup.address)
    (locations_show s l.0 lookup.base lookup.address c.requires.checked c.requires.short l.2) in
    rw (is, c.requires.size) fine

pub returns-in-Some-clause-written : goal.returns-in-Some-clause-written
returns-in-Some-clause-written g c = λ gs given.
    let s = c.args.lists.now in
    let lookup = c.args.lookup in
    let l = some_list_at s lookup.list c.in-Some.ensures.1 in
    let is = c.locations_at-locations.ensures l.0 l.2 (l.3 ∙ sym c.in-Some.ensures.0) in
    let own = c.write_locations.ensures.written gs given in (
      own.0,
      subst (λ o. ShowsList gs o lookup.base lookup.address own.0) (sym l.1)
          (subst (λ (xs : List LocatedExpression). ShowsLocations gs xs own.0) is own.1),
      own.2,
    )

pub returns-in-None-clause-written : goal.returns-in-None-clause-written
returns-in-None-clause-written g c = λ gs given.
    let s = c.args.lists.now in
    let lookup = c.args.lookup in (
      codes "no list\n",
      subst (λ o. ShowsList gs o lookup.base lookup.address (codes "no list\n")) (sym (no_list_at s lookup.list c.in-None.ensures)) refl,
      c.write_no_location.ensures.written,
    )
