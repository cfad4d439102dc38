use Rattle.std.proofs.Common.{arith, ◌≡◌}
use Rattle.dw_rules.specs.RegisterRules.{rule_index}
use Rattle.dw_rules.specs.Views.{entries_of}
use Rattle.dw_rules.proofs.Edits.{clears-removed, removed-place, clears-nothing, clears-end}
use Rattle.dw_rules.proofs.register_rules.clear_rule.Goals as goal
use Rattle.dw_rules.proofs.register_rules.clear_rule.Goals.{else-place-len-via-then-place-len+else-as_slice-place, else-place-len-via-else-place-len}

pub returns-then-as_slice-place : goal.returns-then-as_slice-place
returns-then-as_slice-place c =
    let place : c.place_of_register-place.result ≡ rule_index c.args.register (entries_of c.args.table.now.items) = cc in
    let k = clears-removed c.args.table.now.items _ c.remove.new.self.items c.args.register _ _ c.as_slice-then-place-len.ensures.value
    place (omega arith) c.if-as_slice-place.true c.remove.ensures.items c.requires in
    record {
      table = k.table;
      rules = k.rules;
      value = removed-place c.args.table.now.items _ c.remove.new.self.items c.args.register _ _ c.as_slice-then-place-len.ensures.value
          place (omega arith) c.if-as_slice-place.true c.remove.ensures.items c.requires;
      within = omega (arith, c.remove.ensures.len, c.if-place-len.true);
    }

pub returns-else-place-len-clause-rules : goal.returns-else-place-len-clause-rules
returns-else-place-len-clause-rules c =
    let place : c.place_of_register-place.result ≡ rule_index c.args.register (entries_of c.args.table.now.items) = cc in
    elim c.else-place-len.branch [
      | else-place-len-via-then-place-len+else-as_slice-place w ↦
          (clears-nothing c.args.table.now.items _ c.args.register _ _ w.as_slice-then-place-len.ensures.value place
          (omega arith) w.if-as_slice-place.false c.requires).rules
      | else-place-len-via-else-place-len w ↦ (clears-end c.args.table.now.items c.args.register c.place_of_register-place.result place
          (omega arith) c.requires).rules
    ]
