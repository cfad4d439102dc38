use Rattle.std.proofs.Common.{arith, ◌-◌, sym, ap, ◌∙◌, ◌∷◌}
use Rattle.dw_rules.specs.RuleSet.{StoredRules}
use Rattle.dw_rules.specs.RememberStack.{kept_in}
use Rattle.dw_rules.proofs.Stacks.{kept-popped, not-empty}
use Rattle.dw_rules.proofs.remember_stack.RememberStack.pop.Goals as goal

pub offset_bounds-self-inside-self-inside : goal.offset_bounds-self-inside-self-inside
offset_bounds-self-inside-self-inside c = omega (arith, c.self.invariant.within)

pub unreachable-requires : goal.unreachable-requires
unreachable-requires c =
    not-empty c.self.inside.depth c.self.inside.rows c.index-self-self.result c.if-self-eq0.false c.self.invariant c.in-None.is

pub returns-clause-some : goal.returns-clause-some
returns-clause-some c =
    sym c.self.view_is
    ∙ kept-popped c.self.inside.depth c.self.inside.rows c.index-self-self.result c.in-Some.row c.if-self-eq0.false c.self.invariant
    c.in-Some.is ∙ ap (λ (k : StoredRules). k ∷ kept_in (c.self.inside.depth - 1) c.self.inside.rows) (sym c.copy_from.ensures)
