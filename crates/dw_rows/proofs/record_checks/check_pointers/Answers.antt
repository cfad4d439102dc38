use Rattle.std.proofs.Common.{◌≡◌, ℕ, ◌<◌, List, None, length, map, get_or, refl, sym, ◌∙◌, arith}
use Rattle.std.specs.Prelude.{slice_get}
use Rattle.std.proofs.lemmas.List.{get_or_default}
use Rattle.dw_frame.specs.declared.entry.CommonInformationEntry.{CommonInformationEntry}
use Rattle.dw_frame.specs.Records.{Fde}
use Rattle.dw_frame.specs.Views.{cie_of, fde_of}
use Rattle.dw_rows.specs.Section.{cie_at, pointer_fault}
use Rattle.dw_rows.proofs.Elements.{read-map, some-element}
use Rattle.dw_rows.proofs.Faults.{passed}
use Rattle.dw_rows.proofs.record_checks.check_pointers.Goals as goal

-- an FDE whose CIE was found at an index has no CIE_pointer fault
pointed : (cies : List CommonInformationEntry) (f : Fde) (place : ℕ) → place < length cies
    → cie_at (map cie_of cies) f.cie_pointer ≡ slice_get (map cie_of cies) place → pointer_fault (map cie_of cies) f ≡ None
pointed cies f place lt is =
    let x = get_or cies place (some-element cies place lt) in
    let here : get_or cies place x ≡ x = get_or_default cies place x (some-element cies place lt) lt in
    rw (is, read-map cie_of cies place x lt here) refl

pub loop-fde-preserved : goal.loop-fde-preserved
loop-fde-preserved c =
    let fdes = c.args.fdes.now in
    let x = c.fde-item.result in
    c.loop-fde.invariant
    ∙ passed fde_of (pointer_fault (map cie_of c.args.cies.now)) fdes c.loop-fde.fde-index x (omega arith) (sym c.fde-item.is)
    (pointed c.args.cies.now (fde_of x) c.in-Some.place c.in-Some.ensures.0 c.in-Some.ensures.1)
