use Rattle.std.proofs.Common.{◌∙◌, ◌∷◌, [], ℕ, ap, map, sym}
use Rattle.dw_rules.specs.declared.row.RegisterRule.{RegisterRule}
use Rattle.std.specs.Prelude.{slice_set}
use Rattle.std.proofs.lemmas.List.{length-map, map-append}
use Rattle.dw_rules.specs.Views.{numbered_rule_of}
use Rattle.dw_c_types.specs.Rows.{crule_of}
use Rattle.dw_c_types.specs.Slots.{put_into}
use Rattle.dw_c_types.proofs.Putting.{comes, one_more, puts_shown}
use Rattle.dw_c_types.proofs.row.write_rules.Goals as goal

pub loop-register-preserved : goal.loop-register-preserved
loop-register-preserved c =
    let count = c.loop-register.count in
    let before = map numbered_rule_of c.loop-register.yielded in
    let item : ℕ × RegisterRule = (c.in-Some.register, c.in-Some.rule) in
    let keeps = c.loop-register.invariant in
    let slots = c.args.slots.now in
    record {
      whole = comes numbered_rule_of c.loop-register.yielded item _ _ _ keeps.whole (c.in-Some.ensures).steps;
      written = c.put.ensures ∙ ap (λ x. slice_set c.loop-register.slots count x) c.c_rule_of.ensures
          ∙ ap (λ l. slice_set l count (crule_of (numbered_rule_of item))) keeps.written
          ∙ puts_shown crule_of before slots count (numbered_rule_of item) (keeps.counted ∙ sym (length-map before crule_of))
          ∙ ap (λ l. put_into (map crule_of l) slots) (sym (map-append numbered_rule_of c.loop-register.yielded (item ∷ [])));
      counted = one_more numbered_rule_of c.loop-register.yielded item count keeps.counted;
    }
