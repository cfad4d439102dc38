use Rattle.std.proofs.Common.{◌≡◌, drop}
use Rattle.dw_rules.specs.Rules.{rule_in}
use Rattle.dw_rules.specs.Views.{entries_of}
use Rattle.dw_rules.proofs.register_rules.rule_of_register.Given as goal

abbrev pub invariant-loop-entry : goal.invariant-loop-entry
invariant-loop-entry l = rule_in (entries_of l.entries) l.register ≡ rule_in (entries_of (drop l.entry-index l.entries)) l.register
