use Rattle.std.proofs.Common.{◌≡◌, inl, inr, Option, None, Some, Result, Ok, Err, true, false, map, sym, ap, ◌∙◌}
use Rattle.std.specs.Result.{is_err}
use Rattle.dw_bytes.specs.declared.fault.Fault.{Fault}
use Rattle.dw_bytes.specs.declared.fault.FaultKind.TheVariants.{Memory}
use Rattle.dw_bytes.specs.Answers.{Checks}
use Rattle.dw_frame.specs.Views.{cie_of, fde_of}
use Rattle.dw_rules.specs.ProgramFault.{cie_fault}
use Rattle.dw_rows.specs.Section.{first_fault, overlap_fault, pointer_fault}
use Rattle.dw_rows.proofs.sections.CheckedSections.{read-cies-ascend, read-fdes-ascend}
use Rattle.dw_rows.proofs.sections.Parts.{parts-pass}
use Rattle.dw_rows.proofs.listed_frame.list_records.Goals as goal

pub check_pointers-requires : goal.check_pointers-requires
check_pointers-requires c = rw c.deref.ensures.value (read-cies-ascend _ _ _ (map fde_of c.args.fdes.items) c.requires)

pub index_of-requires : goal.index_of-requires
index_of-requires c = rw c.deref-4.ensures.value (read-fdes-ascend _ _ (map cie_of c.args.cies.items) _ c.requires)

pub check_overlap-requires-clause-fdes : goal.check_overlap-requires-clause-fdes
check_overlap-requires-clause-fdes c = rw c.deref-5.ensures.value (read-fdes-ascend _ _ (map cie_of c.args.cies.items) _ c.requires)

-- a check that fails has found a fault
has-fault : {X : Type 0} (o : Option Fault) (r : Result X Fault) → Checks o r → is_err r ≡ true → o ≡ None → ⊥
has-fault o (Ok x) checks e none = cc
has-fault o (Err fault) checks e none = let no : Some fault ≡ None = sym checks ∙ none in cc

pub returns-then-is_err-clause-none : goal.returns-then-is_err-clause-none
returns-then-is_err-clause-none c none =
    has-fault (first_fault (pointer_fault (map cie_of c.deref.result.now)) (map fde_of c.deref-2.result.now)) c.check_pointers.result
    c.check_pointers.ensures (sym c.is_err.ensures.value ∙ c.if-is_err.true) (rw (c.deref.ensures.value, c.deref-2.ensures.value) (parts-pass _ _ none).pointers)

pub returns-in-Err-2-clause-none : goal.returns-in-Err-2-clause-none
returns-in-Err-2-clause-none c none = elim c.in-Err.ensures.answer [
  | inl lack ↦ let kind : c.in-Err.fault.kind ≡ Memory = ap (λ (f : Fault). f.kind) lack in
      let no : true ≡ false = rw kind at (sym c.eq.ensures ∙ c.if-eq.false) in cc
  | inr fault ↦
      let clean : first_fault cie_fault (map cie_of c.deref-3.result.now) ≡ None = rw c.deref-3.ensures.value (parts-pass _ _ none).cie_programs in
      let no : Some c.in-Err.fault ≡ None = sym fault ∙ clean in cc
]

pub returns-then-is_err-2-clause-none : goal.returns-then-is_err-2-clause-none
returns-then-is_err-2-clause-none c none =
    has-fault (first_fault (overlap_fault (map fde_of c.deref-5.result.now)) (map fde_of c.deref-5.result.now)) c.check_overlap.result
    c.check_overlap.ensures (sym c.is_err-2.ensures.value ∙ c.if-is_err-2.true) (rw c.deref-5.ensures.value (parts-pass _ _ none).overlap)
