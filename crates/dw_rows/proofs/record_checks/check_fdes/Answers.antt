use Rattle.std.proofs.Common.{◌≡◌, ◌++◌, List, Some, None, Contains, map, sym, arith, ap, subst, ◌∙◌, length, refl}
use Rattle.std.specs.Prelude.{option_map, slice_get}
use Rattle.std.proofs.lemmas.Option.{slice_get-map, slice_get_read}
use Rattle.dw_rows.specs.Listing.{IsCounted}
use Rattle.dw_rows.proofs.sections.CountedFdes.{passed-at}
use Rattle.dw_frame.specs.Views.{cie_of, fde_of}
use Rattle.dw_frame.specs.Records.{Cie, Fde}
use Rattle.dw_bytes.specs.declared.fault.FaultKind.TheVariants.{NoSuchCie}
use Rattle.dw_rows.specs.Section.{cie_at, pointer_fault}
use Rattle.dw_rules.proofs.Elements.{contains-map}
use Rattle.dw_rows.proofs.Faults.{none-each}
use Rattle.dw_rows.proofs.record_checks.check_fdes.Goals as goal

none-refused : (cies : List Cie) (f : Fde) → cie_at cies f.cie_pointer ≡ None → pointer_fault cies f ≡ None → ⊥
none-refused cies f nowhere pointed =
    let refused : Some (record { kind = NoSuchCie; at = f.cie_pointer_offset }) ≡ None = rw nowhere at pointed in
    cc

pub unreachable-requires : goal.unreachable-requires
unreachable-requires c =
    let cies = map cie_of c.args.cies.now in
    let fde = c.index-fdes-place.result in
    let among : Contains (map fde_of c.args.fdes.now) (fde_of fde) =
    contains-map fde_of c.args.fdes.now fde (c.loop-place.place, omega arith, sym c.index-fdes-place.is) in
    let pointed : pointer_fault cies (fde_of fde) ≡ None =
    none-each (pointer_fault cies) (map fde_of c.args.fdes.now) c.requires.pointed (fde_of fde) among in
    let nowhere : cie_at cies fde.cie_pointer ≡ None = c.in-None.ensures.cie in
    none-refused cies (fde_of fde) nowhere pointed

pub loop-place-preserved-in-Some : goal.loop-place-preserved-in-Some
loop-place-preserved-in-Some c =
    let cies = map cie_of c.args.cies.now in
    let fdes = c.args.fdes.now in
    let i = c.loop-place.place in
    let x = c.index-fdes-place.result in
    let told = c.in-Some.ensures in
    let known = told.2 0 in
    let at : slice_get (map fde_of fdes) i ≡ Some (fde_of x) =
    slice_get-map fde_of fdes i ∙ ap (option_map fde_of) (slice_get_read fdes (length fdes) i x refl c.loop-place-test.true c.index-fdes-place.is) in
    let counted : IsCounted cies (fde_of x) c.in-Some.known =
    subst (IsCounted cies (fde_of x)) known (c.requires.counted i 0 (fde_of x) told.0 at (λ e. told.1 (sym known ∙ e))) in
    let p = passed-at cies fdes i x c.in-Some.known c.loop-place-test.true (sym c.index-fdes-place.is) counted in
    let h = c.loop-place.invariant in
    record {
      fault = h.fault ∙ p.fault;
      last = h.last;
      kept = h.kept ∙ ap (λ l. c.loop-place.checked ++ l) p.expressions;
      counted = omega (arith, h.counted, p.rows, c.from.ensures);
      small = omega (arith, h.small, c.from.ensures, known, c.type_inv.counted i);
    }
