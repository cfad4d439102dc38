use Rattle.std.proofs.Common.{ap, subst, sym, ◌∙◌}
use Rattle.dw_loclists.specs.Reading.{ListSection, located_in}
use Rattle.dw_loclists.specs.Stored.{AreStoredOf}
use Rattle.dw_loclists.proofs.InPlace.{all-lendable, all-lent}
use Rattle.dw_loclists.proofs.lists.CheckedLists.expressions.Goals as goal

pub new-requires : goal.new-requires
new-requires c =
    let s : ListSection = record { target = c.self.inside.target; section = c.self.inside.section.now } in
    let kept : AreStoredOf (located_in s) c.deref.result.now =
    subst (AreStoredOf (located_in s)) (sym c.deref.ensures.value) c.self.invariant.expressions in
    record { each = all-lendable s c.deref.result.now c.self.invariant.checked kept; short = c.self.invariant.short }

pub returns-clause-expressions : goal.returns-clause-expressions
returns-clause-expressions c =
    let s : ListSection = record { target = c.self.inside.target; section = c.self.inside.section.now } in
    let kept : AreStoredOf (located_in s) c.deref.result.now =
    subst (AreStoredOf (located_in s)) (sym c.deref.ensures.value) c.self.invariant.expressions in
    c.new.ensures ∙ (all-lent s c.deref.result.now c.self.invariant.checked kept ∙ ap located_in c.self.view_is)
