use Rattle.std.proofs.Common.{◌≡◌, ◌∙◌, ℕ, ℤ, [], ap, arith, get_or, List, negsuc, of_z, pos, rules, subst, sym, to_z, w64}
use Rattle.std.specs.Option.{option_map}
use Rattle.dw_rules.specs.Rules.{Cfa, PlacedRule, register_and_offset, rule_in}
use Rattle.dw_rules.specs.RowsWithExpressions.{cfa_with_expressions}
use Rattle.dw_compact_rows.specs.CompactRules.{stored_in}
use Rattle.dw_compact_rows.specs.CompactRuns.{row_of_compact}
use Rattle.dw_compact_rows.specs.Slots.{rule_of_slot}
use Rattle.dw_compact_rows.proofs.Slots.{slot-read}
use Rattle.dw_cached_rows.proofs.CompactPacking.{last-row, saved-row}
use Rattle.dw_cached_rows.proofs.packed_compact.pack_compact.Goals as goal

pub returns-then-slot-clause-row : goal.returns-then-slot-clause-row
returns-then-slot-clause-row c =
    let s = c.slots.result.now in
    let placed = (stored_in c.args.row.now.rules).rules in
    let here : get_or s c.from.result (pos 0) ≡ negsuc 7 = search rules in
    let same : to_z w64 (of_z w64 c.cfa-register.result.1) ≡ c.cfa-register.result.1 = search rules in
    let cfa = subst (λ (n : ℤ). ◌≡◌ {A = Cfa} (register_and_offset c.cfa-register.result.0 n)
    (register_and_offset c.in_ok-empty.empty.form c.in_ok-empty.empty.cfa_offset)) same c.in_ok-empty.ensures.cfa in
    let read = ap (λ (i : ℕ). get_or s i (pos 0)) (sym c.from.ensures) ∙ here in
    let last = ap (λ (l : List (ℕ × PlacedRule)). rule_in l 16) c.slots.ensures.rules ∙ slot-read s 16 (omega arith) ∙ ap rule_of_slot read in
    saved-row c.in_ok-packed.packed c.in_ok-empty.empty (row_of_compact c.args.row.now) c.cfa-register.result.0 c.cfa-register.result.1
    (rule_in placed 16) (ap (option_map (cfa_with_expressions [])) c.cfa-register.ensures) cfa
    c.in_ok-empty.ensures.form c.in_ok-packed.ensures.same c.in_ok-packed.ensures.rules last

pub returns-clause-row : goal.returns-clause-row
returns-clause-row c =
    let s = c.slots.result.now in
    let placed = (stored_in c.args.row.now.rules).rules in
    let here : get_or s c.from.result (pos 0) ≡ negsuc 32767 = search rules in
    let same : to_z w64 (of_z w64 c.cfa-register.result.1) ≡ c.cfa-register.result.1 = search rules in
    let cfa = subst (λ (n : ℤ). ◌≡◌ {A = Cfa} (register_and_offset c.cfa-register.result.0 n)
    (register_and_offset c.in_ok-empty.empty.form c.in_ok-empty.empty.cfa_offset)) same c.in_ok-empty.ensures.cfa in
    let read = ap (λ (i : ℕ). get_or s i (pos 0)) (sym c.from.ensures) ∙ here in
    let last = ap (λ (l : List (ℕ × PlacedRule)). rule_in l 16) c.slots.ensures.rules ∙ slot-read s 16 (omega arith) ∙ ap rule_of_slot read in
    last-row c.in_ok-packed.packed c.in_ok-empty.empty (row_of_compact c.args.row.now) c.cfa-register.result.0 c.cfa-register.result.1
    (rule_in placed 16) (ap (option_map (cfa_with_expressions [])) c.cfa-register.ensures) cfa
    c.in_ok-empty.ensures.form c.in_ok-packed.ensures.same c.in_ok-packed.ensures.rules last c.if-not-saves_none.ensures
