use Rattle.std.proofs.Common.{◌≡◌, Bool, true, false, cond, [], ◌∷◌, Option, Some, None, refl, sym, subst, arith}
use Rattle.std.specs.Prelude.{◌==◌, IfSome, find}
use Rattle.std.proofs.lemmas.Result.{err_from_is_err_and}
use Rattle.dw_frame.specs.Records.{Cie}
use Rattle.dw_rules.specs.ProgramFault.{cie_fault, fde_fault}
use Rattle.dw_rows.specs.Section.{IsChecked}
use Rattle.dw_rules.specs.declared.unwind_row.UnwindRow.{UnwindRow}
use Rattle.dw_eh_frame.specs.declared.record.EhFde.{EhFde}
use Rattle.dw_eh_frame.specs.Views.{eh_fde_of}
use Rattle.dw_in_place.specs.InPlace.{alone, row_of_fde}
use Rattle.dwcheck_c.proofs.in_place.look_up.Goals as goal

pub returns-in_err-place-clause-why : goal.returns-in_err-place-clause-why
returns-in_err-place-clause-why c =
    let p = err_from_is_err_and c.from_residual.result c.from_residual.ensures.1 in rw (p.1, p.2)
    (c.in_err-place.ensures.why c.args.address)

pub returns-in-Ok-Some-clause-under : goal.returns-in-Ok-Some-clause-under
returns-in-Ok-Some-clause-under c =
    let s = c.in_ok-place.place.section in
    let a = c.as_linked-linked.result in
    c.rows_have_good_expressions.ensures.under (alone s.target s.bytes.now (eh_fde_of c.in-Ok-Some.fde)) a
    (subst (λ (o : Option (UnwindRow × EhFde)). IfSome o (λ f. IsChecked (alone s.target s.bytes.now (eh_fde_of f.1))))
    c.in-Ok-Some.field-0-is c.in-Ok-Some.ensures.checked) c.in-Ok-Some.row
    (subst (λ (o : Option (UnwindRow × EhFde)). IfSome o (λ f. row_of_fde s.target s.bytes.now (eh_fde_of f.1) a ≡ Some f.0))
    c.in-Ok-Some.field-0-is c.in-Ok-Some.ensures.row)

same-cie : (d c : Cie) → ◌≡◌ {A = Option Cie} (Some d) (Some c) → d ≡ c
same-cie d c is = cc

only-one : (test : Cie → Bool) (d c : Cie) → find test (d ∷ []) ≡ Some c → d ≡ c
only-one test d c found = go (test d) found
  where
    go : (b : Bool) → cond b (Some d) None ≡ Some c → d ≡ c
    go true is = same-cie d c is
    go false is = absurd cc

-- neither program of the FDE that was found has a fault
good : (c : goal.In-Ok-Some) → (cie_fault (eh_fde_of c.in-Ok-Some.fde).cie.cie ≡ None)
    × (fde_fault (eh_fde_of c.in-Ok-Some.fde).cie.cie (eh_fde_of c.in-Ok-Some.fde).fde ≡ None)
good c =
    let s = c.in_ok-place.place.section in
    let e = eh_fde_of c.in-Ok-Some.fde in
    let checked = subst (λ (o : Option (UnwindRow × EhFde)). IfSome o (λ f. IsChecked (alone s.target s.bytes.now (eh_fde_of f.1))))
    c.in-Ok-Some.field-0-is c.in-Ok-Some.ensures.checked in
    let (its, found, cie, fde) = c.fdes_of_checked_sections.ensures.cie (alone s.target s.bytes.now e) checked e.fde (0, omega arith, refl) in
    let same : e.cie.cie ≡ its = only-one (λ (x : Cie). x.offset == e.fde.cie_pointer) e.cie.cie its found in (
      subst (λ (x : Cie). cie_fault x ≡ None) (sym same) cie,
      subst (λ (x : Cie). fde_fault x e.fde ≡ None) (sym same) fde,
    )

pub returns-in-Ok-Some-clause-cie : goal.returns-in-Ok-Some-clause-cie
returns-in-Ok-Some-clause-cie c = (good c).0

pub returns-in-Ok-Some-clause-fde : goal.returns-in-Ok-Some-clause-fde
returns-in-Ok-Some-clause-fde c = (good c).1
