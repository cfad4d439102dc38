use Rattle.std.proofs.Common.{arith, ◌<◌, length, List, ap, ◌∙◌, ◌∷◌}
use Rattle.dw_rules.specs.declared.remember_stack.TheConstants.{MAX_REMEMBERED}
use Rattle.dw_rules.specs.RuleSet.{StoredRules}
use Rattle.dw_rules.proofs.Stacks.{stack-length, stack-pushed, kept-pushed}
use Rattle.dw_rules.proofs.remember_stack.RememberStack.push.Goals as goal

pub offset_bounds-self-inside-self-inside : goal.offset_bounds-self-inside-self-inside
offset_bounds-self-inside-self-inside c = omega (arith, c.self.invariant.within)

pub listed : goal.listed
listed c = omega (
  arith,
  stack-length c.self.inside.depth c.self.inside.rows c.self.invariant,
  ap (λ (l : List StoredRules). length l) c.self.view_is,
  c.requires,
  c.self.invariant.full,
)

pub bounds-self-inside-self-inside : goal.bounds-self-inside-self-inside
bounds-self-inside-self-inside c = omega (
  arith,
  stack-length c.self.inside.depth c.self.inside.rows c.self.invariant,
  ap (λ (l : List StoredRules). length l) c.self.view_is,
  c.requires,
)

pub invariant_of-self : goal.invariant_of-self
invariant_of-self c =
    let room : c.self.inside.depth < MAX_REMEMBERED =
    omega (
      arith,
      stack-length c.self.inside.depth c.self.inside.rows c.self.invariant,
      ap (λ (l : List StoredRules). length l) c.self.view_is,
      c.requires,
    ) in
    rw c.write_into.ensures (stack-pushed c.self.inside.depth c.self.inside.rows c.args.rules.now room c.self.invariant)

pub returns : goal.returns
returns c =
    let room : c.self.inside.depth < MAX_REMEMBERED =
    omega (
      arith,
      stack-length c.self.inside.depth c.self.inside.rows c.self.invariant,
      ap (λ (l : List StoredRules). length l) c.self.view_is,
      c.requires,
    ) in
    rw c.write_into.ensures (kept-pushed c.self.inside.depth c.self.inside.rows c.args.rules.now room c.self.invariant
    ∙ ap (λ (l : List StoredRules). c.args.rules.now ∷ l) c.self.view_is)
