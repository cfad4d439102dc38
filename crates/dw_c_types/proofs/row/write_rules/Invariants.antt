use Rattle.std.proofs.Common.{◌≡◌, ◌++◌, map, length}
use Rattle.dw_rules.specs.Views.{numbered_rule_of}
use Rattle.dw_c_types.specs.Rows.{crule_of}
use Rattle.dw_c_types.specs.Slots.{put_into}
use Rattle.dw_c_types.proofs.row.write_rules.Given as goal

abbrev pub invariant-loop-register : goal.invariant-loop-register
invariant-loop-register l = record {
  whole : map numbered_rule_of l.yielded ++ l.register-iterator ≡ l.fn.rules;
  written : l.slots ≡ put_into (map crule_of (map numbered_rule_of l.yielded)) l.initial.slots;
  counted : l.count ≡ length (map numbered_rule_of l.yielded);
}
