use Rattle.std.proofs.Common.{◌≡◌, Some, ap, sym, ◌∙◌}
use Rattle.std.specs.Prelude.{Bool, true, false, Option}
use Rattle.std.specs.Bool.{OnTrue}
use Rattle.std.specs.Option.{option_map}
use Rattle.dw_rules.specs.declared.stored_rule.StoredCfa.{StoredCfa}
use Rattle.dw_rules.specs.RuleSet.{StoredRules}
use Rattle.dw_rules.specs.Views.{stored_cfa_of, entries_of}
use Rattle.dw_rules.proofs.initial_rules.InitialRules.are_at.Goals as goal

so : (b : Bool) {X Y : Type 0} → OnTrue b X → (X → Y) → OnTrue b Y
so true fact then = then fact
so false fact then = tt

pub returns-then-same_cfa : goal.returns-then-same_cfa
returns-then-same_cfa c =
    so c.same_entries.result c.same_entries.ensures (λ (same : c.lend-lent.result.entries.now ≡ c.as_slice.result.now).
    let cfa : option_map stored_cfa_of c.lend-lent.result.cfa ≡ c.args.rules.now.cfa =
    ap (λ (o : Option StoredCfa). option_map stored_cfa_of o) c.if-same_cfa.ensures ∙ sym c.cfa.ensures in
    let rules : entries_of c.lend-lent.result.entries.now ≡ c.args.rules.now.rules =
    ap entries_of same ∙ c.as_slice.ensures.entries ∙ c.register_rules.ensures in
    let k : StoredRules = record { cfa = option_map stored_cfa_of c.lend-lent.result.cfa; rules = entries_of c.lend-lent.result.entries.now } in
    let all : k ≡ c.args.rules.now = λ i. record { cfa = cfa i; rules = rules i } in
    c.lend-lent.ensures.rules ∙ ap Some all)
