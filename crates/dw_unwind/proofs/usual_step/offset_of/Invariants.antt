use Rattle.std.proofs.Common.{◌≡◌, map}
use Rattle.dw_rules.specs.Rules.{rule_in}
use Rattle.dw_rules.specs.SavedRules.{as_saved}
use Rattle.dw_stack.specs.Located.{LocatedExpression}
use Rattle.dw_unwind.proofs.usual_step.offset_of.Given as goal

-- the rule is the one by the remaining rules
abbrev pub invariant-loop-register : goal.invariant-loop-register
invariant-loop-register l = rule_in {E = LocatedExpression} (map as_saved l.register-iterator) l.number ≡ rule_in (map as_saved l.fn.rules) l.number
