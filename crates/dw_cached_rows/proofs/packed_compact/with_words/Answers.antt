use Rattle.std.proofs.Common.{get_or, of_z, pos, rules, to_z, w16, w8}
use Rattle.dw_cached_rows.specs.declared.packed_row.PackedRow.{PackedRow}
use Rattle.dw_compact_rows.specs.CompactRules.{stored_in}
use Rattle.dw_cached_rows.proofs.CompactPacking.{by-words, given-by-slots}
use Rattle.dw_cached_rows.proofs.packed_compact.with_words.Goals as goal

pub returns-clause-rules : goal.returns-clause-rules
returns-clause-rules c =
    let s = c.slots-slots.result.now in
    let a = by-words 3 s c.from.result (to_z w8 (of_z w8 c.in_ok-row.field-0)) (to_z w16 (of_z w16 (get_or s c.from.result (pos 0)))) c.in_ok-row.field-0 c.from.ensures (search rules) c.in_ok-row.ensures
    (search rules) in
    let b = by-words 6 s c.from-2.result (to_z w8 (of_z w8 c.in_ok-row-2.field-0)) (to_z w16 (of_z w16 (get_or s c.from-2.result (pos 0)))) c.in_ok-row-2.field-0 c.from-2.ensures (search rules)
    c.in_ok-row-2.ensures (search rules) in
    let d = by-words 12 s c.from-3.result (to_z w8 (of_z w8 c.in_ok-row-3.field-0)) (to_z w16 (of_z w16 (get_or s c.from-3.result (pos 0)))) c.in_ok-row-3.field-0 c.from-3.ensures (search rules)
    c.in_ok-row-3.ensures (search rules) in
    let e = by-words 13 s c.from-4.result (to_z w8 (of_z w8 c.in_ok-row-4.field-0)) (to_z w16 (of_z w16 (get_or s c.from-4.result (pos 0)))) c.in_ok-row-4.field-0 c.from-4.ensures (search rules)
    c.in_ok-row-4.ensures (search rules) in
    let f = by-words 14 s c.from-5.result (to_z w8 (of_z w8 c.in_ok-row-5.field-0)) (to_z w16 (of_z w16 (get_or s c.from-5.result (pos 0)))) c.in_ok-row-5.field-0 c.from-5.ensures (search rules)
    c.in_ok-row-5.ensures (search rules) in
    let g = by-words 15 s c.from-6.result (to_z w8 (of_z w8 c.in_ok-row-6.field-0)) (to_z w16 (of_z w16 (get_or s c.from-6.result (pos 0)))) c.in_ok-row-6.field-0 c.from-6.ensures (search rules)
    c.in_ok-row-6.ensures (search rules) in
    let p : PackedRow = record c.args.row {
      rbx = to_z w8 (of_z w8 c.in_ok-row.field-0);
      rbp = to_z w8 (of_z w8 c.in_ok-row-2.field-0);
      r12 = to_z w8 (of_z w8 c.in_ok-row-3.field-0);
      r13 = to_z w8 (of_z w8 c.in_ok-row-4.field-0);
      r14 = to_z w8 (of_z w8 c.in_ok-row-5.field-0);
      r15 = to_z w8 (of_z w8 c.in_ok-row-6.field-0);
    } in
    given-by-slots p (stored_in c.args.rules.now).rules s c.slots-slots.ensures.rules c.requires a b d e f g
