use Rattle.std.proofs.Common.{◌≡◌, ◌++◌, map}
use Rattle.dw_rules.specs.Rules.{rule_in}
use Rattle.dw_rules.specs.Views.{numbered_rule_of}
use Rattle.dw_unwind.proofs.missing_places.rule_in_row.Given as goal

-- the rule is the one by the remaining rules
abbrev pub invariant-loop-register : goal.invariant-loop-register
invariant-loop-register l = record {
  whole : map numbered_rule_of l.yielded ++ l.register-iterator ≡ l.fn.rules;
  rule : rule_in l.register-iterator l.number ≡ rule_in l.fn.rules l.number;
}
