use Rattle.std.proofs.Common.{sym, ap, ◌∙◌, length, List}
use Rattle.dw_rules.specs.RuleSet.{StoredRules}
use Rattle.dw_rules.proofs.Stacks.{stack-length}
use Rattle.dw_rules.proofs.remember_stack.RememberStack.depth.Goals as goal

pub returns : goal.returns
returns c = sym (stack-length c.self.inside.depth c.self.inside.rows c.self.invariant)
    ∙ ap (λ (l : List StoredRules). length l) c.self.view_is
