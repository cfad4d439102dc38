use Rattle.std.proofs.Common.{inl, inr, ap, ◌∙◌, true, false, ◌≡◌, List, Option, None, Some, Result, Ok, Err, sym, subst}
use Rattle.std.specs.Prelude.{IfNone, IfOk, IfSome}
use Rattle.dw_bytes.specs.Answers.{values_in}
use Rattle.dw_bytes.specs.declared.fault.Fault.{Fault}
use Rattle.dw_bytes.specs.declared.fault.FaultKind.TheVariants.{Memory}
use Rattle.dw_rows.specs.Section.{FrameSection, IsChecked}
use Rattle.dw_rows.specs.declared.listed_frame.UncheckedFrame.{UncheckedFrame}
use Rattle.dw_eh_frame.specs.Records.{all_in_dwarf, eh_reading_fault, eh_records_of}
use Rattle.dw_frame.specs.Records.{Cie, Fde}
use Rattle.dw_rows.specs.Section.{parts_fault}
use Rattle.dw_eh_rows.specs.Section.{AllAreGood, eh_frame_of, eh_section_fault}
use Rattle.dw_eh_rows.proofs.NoCopies.{CopyLaws, whole}
use Rattle.dw_eh_rows.proofs.check.list_eh_frame.Goals as goal

pub list_records-requires : goal.list_records-requires
list_records-requires c = record {
  records = all_in_dwarf (values_in (eh_records_of c.args.is_aarch64 c.args.bases c.args.target c.args.section.now));
  placed = c.in-Ok.ensures.placed;
  cies_are = c.in-Ok.ensures.cies;
  fdes_are = c.in-Ok.ensures.fdes;
}

-- what holds anyway holds if something was listed
in-any-case : (P : Type 0) (r : Result (Option UncheckedFrame) Fault) → P → IfOk r (λ made. IfSome made (λ _. P))
in-any-case P (Ok (Some frame)) p = p
in-any-case P (Ok None) p = tt
in-any-case P (Err fault) p = tt

pub returns-clause-read : goal.returns-clause-read
returns-clause-read c =
    in-any-case (eh_reading_fault c.args.is_aarch64 c.args.bases c.args.target c.args.section.now ≡ None) c.list_records.result
    c.in-Ok.ensures.answer

pub returns-clause-listed : goal.returns-clause-listed
returns-clause-listed c = rw (c.in-Ok.ensures.cies, c.in-Ok.ensures.fdes) at c.list_records.ensures.listed

-- what holds of a section holds of what was listed of it
of-listed : (Q : FrameSection → Type 0) (s : FrameSection) (r : Result (Option UncheckedFrame) Fault)
    → IfOk r (λ made. IfSome made (λ frame. frame.listed ≡ s)) → (IsChecked s → Q s)
    → IfOk r (λ made. IfSome made (λ frame. IsChecked frame.listed → Q frame.listed))
of-listed Q s (Ok (Some frame)) is all = λ checked. subst Q (sym is) (all (subst IsChecked is checked))
of-listed Q s (Ok None) is all = tt
of-listed Q s (Err fault) is all = tt

pub returns-clause-faultless : goal.returns-clause-faultless
returns-clause-faultless c =
    let read = c.in-Ok.ensures in
    let laws : CopyLaws = record { good = c.records_without_fault_are_good.ensures; kept = c.records_without_copies_are_kept.ensures } in
    of-listed (λ s. eh_section_fault c.args.is_aarch64 c.args.bases c.args.target c.args.section.now ≡ None) _ c.list_records.result
    (rw (read.cies, read.fdes) at c.list_records.ensures.listed)
    (λ checked. (whole laws c.args.is_aarch64 c.args.bases c.args.target c.args.section.now read.placed read.answer checked).faultless)

pub returns-clause-frame : goal.returns-clause-frame
returns-clause-frame c =
    let read = c.in-Ok.ensures in
    let laws : CopyLaws = record { good = c.records_without_fault_are_good.ensures; kept = c.records_without_copies_are_kept.ensures } in
    of-listed (λ s. s ≡ eh_frame_of c.args.is_aarch64 c.args.bases c.args.target c.args.section.now) _ c.list_records.result
    (rw (read.cies, read.fdes) at c.list_records.ensures.listed)
    (λ checked. (whole laws c.args.is_aarch64 c.args.bases c.args.target c.args.section.now read.placed read.answer checked).frame)

-- where nothing was listed, a fault was found
none-listed : (r : Result (Option UncheckedFrame) Fault) (cies cies' : List Cie) (fdes fdes' : List Fde) (P : Type 0)
    → IfOk r (λ made. IfNone made (parts_fault cies fdes ≡ None → ⊥)) → cies ≡ cies' → fdes ≡ fdes' → (P → parts_fault cies' fdes' ≡ None)
    → IfOk r (λ made. IfNone made (P → ⊥))
none-listed (Ok None) cies cies' fdes fdes' P faulty same_cies same_fdes good = λ p. faulty (rw (same_cies, same_fdes) (good p))
none-listed (Ok (Some frame)) cies cies' fdes fdes' P faulty same_cies same_fdes good = tt
none-listed (Err fault) cies cies' fdes fdes' P faulty same_cies same_fdes good = tt

pub returns-clause-none : goal.returns-clause-none
returns-clause-none c =
    none-listed c.list_records.result _ _ _ _ (AllAreGood c.args.is_aarch64 c.args.bases c.args.target c.args.section.now)
    c.list_records.ensures.none c.in-Ok.ensures.cies c.in-Ok.ensures.fdes (λ good. good.1)

pub returns-in-Err-2-clause-none : goal.returns-in-Err-2-clause-none
returns-in-Err-2-clause-none c good = elim c.in-Err.ensures.answer [
  | inl lack ↦
      let kind : c.in-Err.fault.kind ≡ Memory = ap (λ (f : Fault). f.kind) lack in
      let no : true ≡ false = rw kind at (sym c.eq.ensures ∙ c.if-eq.false) in cc
  | inr fault ↦ let no : Some c.in-Err.fault ≡ None = sym fault ∙ good.0 in cc
]
