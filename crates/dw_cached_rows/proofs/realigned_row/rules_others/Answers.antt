use Rattle.std.proofs.Common.{◌≡◌, ◌∙◌, ◌++◌, ℕ, List, ap, map, rules, sym, true}
use Rattle.dw_rules.specs.Rules.{Rule}
use Rattle.dw_rules.specs.declared.row.RegisterRule.{RegisterRule}
use Rattle.std.proofs.lemmas.List.{append-nil}
use Rattle.dw_rules.specs.Views.{numbered_rule_of}
use Rattle.dw_cached_rows.specs.PackedRows.{is_packed}
use Rattle.dw_cached_rows.proofs.RealignedPacking.{all-more, comes, not-listed}
use Rattle.dw_cached_rows.proofs.realigned_row.rules_others.Goals as goal

pub loop-register-preserved : goal.loop-register-preserved
loop-register-preserved c =
    let item : ℕ × RegisterRule = (c.in-Some.register, c.in-Some.field-0-1) in
    let here : is_packed c.in-Some.register ≡ true = search rules in
    record {
      packed = all-more c.loop-register.yielded item c.loop-register.invariant.packed here;
      whole = comes c.loop-register.yielded item _ _ _ c.loop-register.invariant.whole (c.in-Some.ensures).steps;
    }

pub returns : goal.returns
returns c = λ r other.
    let ended = ap (λ (l : List (ℕ × Rule)). map numbered_rule_of c.loop-register.yielded ++ l) (c.in-None.ensures).steps.0 in
    let whole : c.args.row.now.rules ≡ map numbered_rule_of c.loop-register.yielded =
    sym (sym (append-nil (map numbered_rule_of c.loop-register.yielded)) ∙ sym ended ∙ c.loop-register.invariant.whole) in
    not-listed c.args.row.now.rules c.loop-register.yielded r whole c.loop-register.invariant.packed other
