use Rattle.std.proofs.Common.{◌≡◌, ◌∙◌, ℤ, ap, of_z, refl, rules, subst, sym, to_z, w32, w8}
use Rattle.std.specs.Prelude.{Some}
use Rattle.dw_rules.specs.Rules.{Cfa, Rule}
use Rattle.dw_cached_rows.specs.declared.packed_row.PackedRow.{PackedRow}
use Rattle.dw_cached_rows.specs.PackedRows.{IsCoded, IsSavedByRbp, word_operations}
use Rattle.dw_cached_rows.proofs.RealignedPacking.{each-saved}
use Rattle.dw_cached_rows.proofs.realigned_row.pack_realigned.Goals as goal

pub returns : goal.returns
returns c =
    let row = c.args.row.now in
    let packed : PackedRow = record c.none-packed.result {
      form = 64;
      cfa_offset = to_z w32 (of_z w32 c.from.result);
      rbx = to_z w8 (of_z w8 c.in_ok-packed.field-0);
      rbp = to_z w8 (of_z w8 c.in_ok-packed-2.field-0);
      r12 = to_z w8 (of_z w8 c.in_ok-packed-3.field-0);
      r13 = to_z w8 (of_z w8 c.in_ok-packed-4.field-0);
      r14 = to_z w8 (of_z w8 c.in_ok-packed-5.field-0);
      r15 = to_z w8 (of_z w8 c.in_ok-packed-6.field-0);
    } in
    let words : to_z w32 (of_z w32 c.from.result) ≡ c.in_ok-words.words = search rules in
    let a : to_z w8 (of_z w8 c.in_ok-packed.field-0) ≡ c.in_ok-packed.field-0 = search rules in
    let b : to_z w8 (of_z w8 c.in_ok-packed-2.field-0) ≡ c.in_ok-packed-2.field-0 = search rules in
    let d : to_z w8 (of_z w8 c.in_ok-packed-3.field-0) ≡ c.in_ok-packed-3.field-0 = search rules in
    let e : to_z w8 (of_z w8 c.in_ok-packed-4.field-0) ≡ c.in_ok-packed-4.field-0 = search rules in
    let f : to_z w8 (of_z w8 c.in_ok-packed-5.field-0) ≡ c.in_ok-packed-5.field-0 = search rules in
    let h : to_z w8 (of_z w8 c.in_ok-packed-6.field-0) ≡ c.in_ok-packed-6.field-0 = search rules in
    let cfa = c.in_ok-words.ensures in
    let saved = λ (k words : ℤ) (rule given : Rule). λ (same : k ≡ words) (is : rule ≡ given) (says : IsSavedByRbp words rule).
    subst (λ (n : ℤ). IsSavedByRbp n given) (sym same) (subst (IsSavedByRbp words) is says) in
    record {
      form = refl;
      expression = cfa.0;
      cfa = c.cfa.ensures.cfa ∙ ap (λ (rule : Cfa). Some rule) cfa.1;
      is = subst (λ (n : ℤ). IsCoded (word_operations n) 3 cfa.0) (sym words) cfa.2;
      saved = each-saved packed row.rules c.if-rules_others.ensures
          (saved _ _ _ _ a c.register-2.ensures.rule c.in_ok-packed.ensures)
          (saved _ _ _ _ b c.register-3.ensures.rule c.in_ok-packed-2.ensures)
          (saved _ _ _ _ d c.register-4.ensures.rule c.in_ok-packed-3.ensures)
          (saved _ _ _ _ e c.register-5.ensures.rule c.in_ok-packed-4.ensures)
          (saved _ _ _ _ f c.register-6.ensures.rule c.in_ok-packed-5.ensures)
          (saved _ _ _ _ h c.register-7.ensures.rule c.in_ok-packed-6.ensures);
      returns = sym c.register.ensures.rule ∙ c.if-not-is_just_below.ensures;
    }
