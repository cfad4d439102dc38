use Rattle.std.proofs.Common.{◌≡◌, rules, to_z, of_z, w8}
use Rattle.dw_cached_rows.proofs.Packing.{all-taken}
use Rattle.dw_cached_rows.proofs.packed_row.with_saved.Goals as goal

pub returns-then-is_return_alone-clause-rules : goal.returns-then-is_return_alone-clause-rules
returns-then-is_return_alone-clause-rules c =
    let a : to_z w8 (of_z w8 c.in_ok-row.field-0) ≡ c.in_ok-row.field-0 = search rules in
    let b : to_z w8 (of_z w8 c.in_ok-row-2.field-0) ≡ c.in_ok-row-2.field-0 = search rules in
    let d : to_z w8 (of_z w8 c.in_ok-row-3.field-0) ≡ c.in_ok-row-3.field-0 = search rules in
    let e : to_z w8 (of_z w8 c.in_ok-row-4.field-0) ≡ c.in_ok-row-4.field-0 = search rules in
    let f : to_z w8 (of_z w8 c.in_ok-row-5.field-0) ≡ c.in_ok-row-5.field-0 = search rules in
    let h : to_z w8 (of_z w8 c.in_ok-row-6.field-0) ≡ c.in_ok-row-6.field-0 = search rules in
    rw (a, b, d, e, f, h)
    (all-taken c.in_ok-row.field-0 c.in_ok-row-2.field-0 c.in_ok-row-3.field-0 c.in_ok-row-4.field-0 c.in_ok-row-5.field-0
    c.in_ok-row-6.field-0 _ _ _ _ _ _ _ c.in_ok-row.ensures c.in_ok-row-2.ensures c.in_ok-row-3.ensures c.in_ok-row-4.ensures
    c.in_ok-row-5.ensures c.in_ok-row-6.ensures c.if-is_return_alone.ensures)
