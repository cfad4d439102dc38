use Rattle.std.proofs.Common.{◌≡◌, List, ◌∷◌, ◌++◌, Contains, sym, ap, subst, ◌∙◌}
use Rattle.dw_bytes.specs.Operands.{block_of}
use Rattle.dw_loclists.specs.Locations.{location_of}
use Rattle.dw_stack.specs.Located.{LocatedExpression}
use Rattle.dw_loclists.specs.Walks.{held_ahead, default_ahead}
use Rattle.dw_loclists.proofs.Search.{contains-past}
use Rattle.dw_loclists.proofs.locations.LocationsAtIterator.next.Goals as goal

pub invariant_of-self : goal.invariant_of-self
invariant_of-self c =
    let it = c.self.inside in
    let after = c.next_held.new.self in
    let steps = c.in-Some.ensures in
    let ahead : held_ahead it.address it.walk ++ default_ahead it.walk ≡ location_of (block_of c.in-Some.block) ∷
    (held_ahead it.address after ++ default_ahead after) =
    ap (λ (xs : List LocatedExpression). xs ++ default_ahead it.walk) steps.0
    ∙ ap (λ (xs : List LocatedExpression). location_of (block_of c.in-Some.block) ∷ (held_ahead it.address after ++ xs)) (sym steps.1)
    in
    record {
      readable = λ going. steps.2;
      order = c.self.invariant.order;
      among = λ going x among. c.self.invariant.among going x
          (subst (λ (xs : List LocatedExpression). Contains xs x) (sym ahead)
          (contains-past x (location_of (block_of c.in-Some.block)) (held_ahead it.address after ++ default_ahead after) among));
    }
