use Rattle.std.proofs.Common.{◌≡◌, ◌++◌, map}
use Rattle.std.specs.List.{flat_map}
use Rattle.std.specs.String.{string_bytes}
use Rattle.dw_rules.specs.Views.{numbered_rule_of}
use Rattle.dw_check.specs.Text.{register_text}
use Rattle.dw_check.proofs.lines.push_rules.Given as goal

abbrev pub invariant-loop-register : goal.invariant-loop-register
invariant-loop-register l = record {
  whole : map numbered_rule_of l.yielded ++ l.register-iterator ≡ l.fn.rules;
  written : string_bytes l.line ≡ string_bytes l.fn.line ++ flat_map register_text (map numbered_rule_of l.yielded);
}
