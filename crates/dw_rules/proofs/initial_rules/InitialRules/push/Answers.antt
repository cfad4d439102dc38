use Rattle.std.proofs.Common.{◌≡◌, ℕ, List, [], ◌∷◌, ◌++◌, length, take, arith, sym, ap, ◌∙◌}
use Rattle.std.proofs.Math.Seq.{take-append_seam}
use Rattle.dw_rules.specs.declared.register_rules.RuleEntry.{RuleEntry}
use Rattle.dw_rules.specs.declared.initial_rules.RuleSpan.{RuleSpan}
use Rattle.dw_rules.specs.RuleSet.{StoredRules}
use Rattle.std.specs.Option.{option_map}
use Rattle.dw_rules.specs.Views.{stored_cfa_of, entries_of}
use Rattle.dw_rules.proofs.Initials.{Pushed, pushed}
use Rattle.dw_rules.proofs.initial_rules.InitialRules.push.Goals as goal

-- if the span can't be stored, its entries are removed again
back : (c : goal.After-truncate) → c.truncate.new.self.items ≡ c.self.inside.entries.items
back c =
    let old = c.self.inside.entries.items in
    let its = c.as_slice-entries.result.now in
    let more : c.extend_from_slice.new.self.items ≡ old ++ its = c.in_ok-extend_from_slice.ensures.items in
    let start : c.len-start.result ≡ length old = omega (arith, c.self.inside.entries.ok.0, c.len-start.ensures) in
    c.truncate.ensures.items ∙ ap (λ (l : List RuleEntry). take c.len-start.result l) more
    ∙ ap (λ (n : ℕ). take n (old ++ its)) start ∙ take-append_seam old its

pub invariant_of-self-then-is_err : goal.invariant_of-self-then-is_err
invariant_of-self-then-is_err c =
    let spans : c.push.new.self.items ≡ c.self.inside.spans.items = rw c.if-is_err.ensures.negation at c.push.ensures.items in
    rw (back c, spans) c.self.invariant

pub returns-then-is_err : goal.returns-then-is_err
returns-then-is_err c =
    let spans : c.push.new.self.items ≡ c.self.inside.spans.items = rw c.if-is_err.ensures.negation at c.push.ensures.items in
    rw (back c, spans) c.self.view_is

-- the span that is added: where the rule set's entries begin and end, and its CFA rule
abbrev span : goal.Else-is_err → RuleSpan
span c = record { cfa = c.cfa.result; start = c.len-start.result; end = c.len.result; plain_below = c.plain_below.result }

one_more : (c : goal.Else-is_err) → Pushed c.self.inside.entries.items c.as_slice-entries.result.now c.self.inside.spans.items (span c)
one_more c =
    let entries : c.extend_from_slice.new.self.items ≡ c.self.inside.entries.items ++ c.as_slice-entries.result.now =
    c.in_ok-extend_from_slice.ensures.items in
    let start : c.len-start.result ≡ length c.self.inside.entries.items = omega (arith, c.self.inside.entries.ok.0, c.len-start.ensures) in
    let all : c.len.result ≡ length c.extend_from_slice.new.self.items = omega (arith, c.extend_from_slice.new.self.ok.0, c.len.ensures) in
    pushed c.self.inside.entries.items c.as_slice-entries.result.now c.self.inside.spans.items (span c) c.self.invariant start
    (all ∙ ap (λ (l : List RuleEntry). length l) entries) c.as_slice-entries.ensures.few c.as_slice-entries.ensures.table c.plain_below.ensures

pub invariant_of-self-else-is_err : goal.invariant_of-self-else-is_err
invariant_of-self-else-is_err c =
    let entries : c.extend_from_slice.new.self.items ≡ c.self.inside.entries.items ++ c.as_slice-entries.result.now =
    c.in_ok-extend_from_slice.ensures.items in
    let spans : c.push.new.self.items ≡ c.self.inside.spans.items ++ span c ∷ [] =
    rw c.if-is_err.ensures.negation at c.push.ensures.items in
    rw (entries, spans) (one_more c).are

pub returns : goal.returns
returns c =
    let entries : c.extend_from_slice.new.self.items ≡ c.self.inside.entries.items ++ c.as_slice-entries.result.now =
    c.in_ok-extend_from_slice.ensures.items in
    let spans : c.push.new.self.items ≡ c.self.inside.spans.items ++ span c ∷ [] =
    rw c.if-is_err.ensures.negation at c.push.ensures.items in
    let rules : entries_of c.as_slice-entries.result.now ≡ c.args.rules.now.rules = c.as_slice-entries.ensures.entries ∙ c.register_rules.ensures in
    let same : record { cfa = option_map stored_cfa_of c.cfa.result; rules = entries_of c.as_slice-entries.result.now } ≡ c.args.rules.now =
    λ i. record { cfa = sym c.cfa.ensures i; rules = rules i } in
    rw (entries, spans)
    ((one_more c).kept
    ∙ (ap (λ (l : List StoredRules). l ++ record { cfa = option_map stored_cfa_of c.cfa.result; rules = entries_of c.as_slice-entries.result.now }
    ∷ []) c.self.view_is ∙ ap (λ (k : StoredRules). c.args.self.now ++ k ∷ []) same))
