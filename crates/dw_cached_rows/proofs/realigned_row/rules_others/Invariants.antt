use Rattle.std.proofs.Common.{◌≡◌, ◌++◌, map}
use Rattle.std.specs.List.{AllByRecursion}
use Rattle.dw_rules.specs.Views.{numbered_rule_of}
use Rattle.dw_cached_rows.proofs.RealignedPacking.{IsPackedItem}
use Rattle.dw_cached_rows.proofs.realigned_row.rules_others.Given as goal

abbrev pub invariant-loop-register : goal.invariant-loop-register
invariant-loop-register l = record {
  packed : AllByRecursion IsPackedItem l.yielded;
  whole : map numbered_rule_of l.yielded ++ l.register-iterator ≡ l.row.rules;
}
