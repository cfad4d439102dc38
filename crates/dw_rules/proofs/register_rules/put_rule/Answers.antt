use Rattle.std.proofs.Common.{arith, ◌≡◌, ◌<◌, length}
use Rattle.std.proofs.lemmas.Grind.{common_steps}
use Rattle.dw_rules.specs.RegisterRules.{rule_index}
use Rattle.dw_rules.specs.Views.{stored_rule_of, entries_of}
use Rattle.dw_rules.proofs.Tables.{inserted, Clears, puts-inserted, full-count}
use Rattle.dw_rules.proofs.Edits.{insert-place, stored_rule_of-some, length-entries_of}
use Rattle.dw_rules.specs.declared.register_rules.TheConstants.{MAX_RULES}
use Rattle.dw_rules.proofs.register_rules.put_rule.Goals as goal

pub returns-then-full : goal.returns-then-full
returns-then-full c =
    let old = entries_of c.args.table.now.items in
    let mid = entries_of c.clear_rule-place.new.table.items in
    let full : length c.clear_rule-place.new.table.items ≡ MAX_RULES = grind (arith, common_steps) in
    let clears : Clears old c.args.register mid = record { table = c.clear_rule-place.ensures.table; rules = c.clear_rule-place.ensures.rules } in
    let more = full-count old mid c.args.register (stored_rule_of c.args.rule) (omega arith)
    (stored_rule_of-some c.args.rule c.in_default.not-Default) clears in
    record {
      table = c.clear_rule-place.ensures.table;
      rules = tt;
      few = omega (arith, c.is_full-full.ensures.fits, length-entries_of c.clear_rule-place.new.table.items);
      full =
          omega (arith, more, length-entries_of c.clear_rule-place.new.table.items);
    }

pub returns : goal.returns
returns c =
    let old = entries_of c.args.table.now.items in
    let mid = entries_of c.clear_rule-place.new.table.items in
    let place : c.clear_rule-place.result ≡ rule_index c.args.register mid = c.clear_rule-place.ensures.value in
    let clears : Clears old c.args.register mid = record { table = c.clear_rule-place.ensures.table; rules = c.clear_rule-place.ensures.rules } in
    let new : entries_of c.insert.new.self.items ≡ inserted c.args.register (stored_rule_of c.args.rule) mid =
    rw (c.insert.ensures.items, place) (insert-place c.clear_rule-place.new.table.items c.args.register
    (stored_rule_of c.args.rule) c.entry_with_rule.result c.entry_with_rule.ensures) in
    let k = puts-inserted old mid (entries_of c.insert.new.self.items) c.args.register (stored_rule_of c.args.rule) (omega arith)
    (stored_rule_of-some c.args.rule c.in_default.not-Default) clears new in
    record {
      table = k.table;
      rules = k.rules;
      few = let room : length c.clear_rule-place.new.table.items < MAX_RULES = grind
          (arith, common_steps) in omega (arith, c.insert.ensures.len, length-entries_of c.insert.new.self.items);
      full = tt;
    }
