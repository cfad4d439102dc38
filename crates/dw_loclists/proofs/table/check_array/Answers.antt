use Rattle.std.proofs.Common.{◌≡◌, ◌<◌, ◌+◌, ◌^◌, [], ◌∷◌, ◌++◌, map, Err, ℕ, List, Contains, min, sym, ap, subst, ◌∙◌, arith, add-one}
use Rattle.std.proofs.lemmas.Grind.{common_steps}
use Rattle.dw_bytes.specs.declared.fault.Fault.{Fault}
use Rattle.dw_bytes.specs.declared.fault.FaultKind.TheVariants.{BadOffsetEntry}
use Rattle.dw_bytes.specs.Sequence.{exactly_of}
use Rattle.dw_bytes.proofs.Sequences.{exactly-more, exactly-stops}
use Rattle.dw_loclists.specs.declared.stored_section.LocationList.{LocationList}
use Rattle.dw_loclists.specs.Reading.{list_offset_at}
use Rattle.dw_loclists.specs.Views.{start_of}
use Rattle.dw_loclists.proofs.EachTable.{offset-bad, offset-good, offset-refused}
use Rattle.dw_loclists.proofs.Search.{contained-map}
use Rattle.dw_loclists.proofs.table.check_array.Goals as goal

pub returns-in_err-offset-clause-exact : goal.returns-in_err-offset-clause-exact
returns-in_err-offset-clause-exact c =
    let starts = map start_of c.args.lists.now in
    let array = c.args.cursor.now.position in
    let before = c.offsets.invariant in
    let fault = c.in_err-offset.field-0.0 in
    let stop : exactly_of (list_offset_at c.args.format array starts) c.args.count c.args.cursor.now ≡ Err fault =
    exactly-stops (list_offset_at c.args.format array starts) c.offsets.read c.args.count c.args.cursor.now c.offsets.cursor before.some.0
    fault (omega arith) before.some.1 (offset-refused c.args.format array starts c.offsets.cursor fault c.in_err-offset.ensures.exact.0)
    in
    grind (arith, common_steps, stop)

never-long : (lists : List LocationList) (sum found : ℕ) → found ≡ min sum 18446744073709551615 → (Contains (map start_of lists) found → ⊥)
    → Contains (map start_of lists) sum → ⊥
never-long lists sum found is never among =
    let l = contained-map start_of lists sum among in
    let short : start_of l.0 < 2 ^ 32 = l.0.short in
    never (subst (Contains (map start_of lists)) (omega (arith, short, l.2, is)) among)

always-short : (lists : List LocationList) (sum found : ℕ) → found ≡ min sum 18446744073709551615 → Contains (map start_of lists) found
    → Contains (map start_of lists) sum
always-short lists sum found is among =
    let l = contained-map start_of lists found among in
    let short : start_of l.0 < 2 ^ 32 = l.0.short in
    subst (Contains (map start_of lists)) (omega (arith, short, l.2, is)) among

pub returns-then-is_none-clause-exact : goal.returns-then-is_none-clause-exact
returns-then-is_none-clause-exact c =
    let starts = map start_of c.args.lists.now in
    let array = c.args.cursor.now.position in
    let before = c.offsets.invariant in
    let fault : Fault = record { kind = BadOffsetEntry; at = c.position-at.result } in
    let sum = array + c.in_ok-offset.offset in
    let sum_is : c.saturating_add.result ≡ min sum 18446744073709551615 =
    c.saturating_add.ensures ∙ ap (λ n. min (n + c.in_ok-offset.offset) 18446744073709551615) (c.from-array.ensures ∙ c.position.ensures) in
    let none : Contains starts c.saturating_add.result → ⊥ = grind (arith, common_steps) in
    let never : Contains starts sum → ⊥ = never-long c.args.lists.now sum c.saturating_add.result sum_is none in
    let bad : list_offset_at c.args.format array starts c.offsets.cursor ≡ Err fault =
    offset-bad c.args.format array starts c.offsets.cursor c.offset.new.self c.in_ok-offset.offset c.position-at.result
    (sym c.position-at.ensures) c.in_ok-offset.ensures.exact never in
    exactly-stops (list_offset_at c.args.format array starts) c.offsets.read c.args.count c.args.cursor.now c.offsets.cursor before.some.0
    fault (omega arith) before.some.1 bad

pub offsets-preserved : goal.offsets-preserved
offsets-preserved c =
    let starts = map start_of c.args.lists.now in
    let array = c.args.cursor.now.position in
    let before = c.offsets.invariant in
    let step = c.in_ok-offset.ensures in
    let sum = array + c.in_ok-offset.offset in
    let sum_is : c.saturating_add.result ≡ min sum 18446744073709551615 =
    c.saturating_add.ensures ∙ ap (λ n. min (n + c.in_ok-offset.offset) 18446744073709551615) (c.from-array.ensures ∙ c.position.ensures) in
    let found : Contains starts c.saturating_add.result = grind (arith, common_steps) in
    let among : Contains starts sum = always-short c.args.lists.now sum c.saturating_add.result sum_is found in
    record {
      within = omega arith;
      some = (
        before.some.0 ++ c.in_ok-offset.offset ∷ [],
        rw add-one
            (exactly-more (list_offset_at c.args.format array starts) c.offsets.read c.args.cursor.now c.offsets.cursor c.offset.new.self
            before.some.0 c.in_ok-offset.offset before.some.1
            (offset-good c.args.format array starts c.offsets.cursor c.offset.new.self c.in_ok-offset.offset step.exact among)),
      );
      goes = record {
        forward = omega (arith, before.goes.forward, step.goes_on.forward);
        same_end = step.goes_on.same_end
            ∙ before.goes.same_end;
        same_target = step.goes_on.same_target ∙ before.goes.same_target;
      };
    }
