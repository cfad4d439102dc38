use Rattle.std.proofs.Common.{◌≡◌, drop, ◌+◌}
use Rattle.dw_rules.specs.RegisterRules.{rule_index}
use Rattle.dw_rules.specs.Views.{entries_of}
use Rattle.dw_rules.proofs.register_rules.place_of_register.Given as goal

abbrev pub invariant-loop-place : goal.invariant-loop-place
invariant-loop-place l = rule_index l.register (entries_of l.entries) ≡ rule_index l.register (entries_of (drop l.place l.entries)) + l.place
