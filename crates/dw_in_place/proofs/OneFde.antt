-- An FDE without a fault in place and its CIE are an accepted section of two records.
use Rattle.std.proofs.Common.{◌≡◌, ℕ, zero, suc, ◌≤◌, Bool, true, false, cond, List, [], ◌∷◌, ◌++◌, length, map, Option, Some, None, Contains, refl, sym, ap, ◌∙◌, arith}
use Rattle.std.specs.Prelude.{is_some, find}
use Rattle.std.specs.Option.{option_or}
use Rattle.std.proofs.lemmas.Bool.{eq-eqb, leb-true, le-leb, le-ltb}
use Rattle.std.proofs.lemmas.List.{append-nil}
use Rattle.dw_bytes.specs.declared.target.Target.{Target}
use Rattle.dw_bytes.specs.declared.fault.Fault.{Fault}
use Rattle.dw_bytes.specs.declared.fault.FaultKind.TheVariants.{NoSuchCie}
use Rattle.dw_frame.specs.Bounds.{ArePlaced, IsSoundCie, IsSoundFde}
use Rattle.dw_frame.specs.Records.{Cie, Fde, cie_record, fde_record}
use Rattle.dw_stack.specs.Located.{LocatedExpression}
use Rattle.dw_rules.specs.Expressions.{expressions_of}
use Rattle.dw_rules.specs.ProgramFault.{cie_fault, fde_fault, end_of}
use Rattle.dw_rules.specs.Rules.{Row}
use Rattle.dw_rules.specs.RowsWithExpressions.{row_with_expressions}
use Rattle.dw_rows.specs.RowCursors.{Lends}
use Rattle.dw_rows.specs.Section.{Covers, IsChecked, IsCoverOf, cie_at, fault_by_cie, parts_fault, rows_by_cie}
use Rattle.dw_rows.specs.UnwindRows.{rows_of, has_address}
use Rattle.dw_rows.proofs.Faults.{option_or-none}
use Rattle.dw_rows.proofs.expressions.Lending.{lends-in}
use Rattle.dw_rows.proofs.rows.Lookups.{row-found}
use Rattle.dw_rows.proofs.sections.CheckedSections.{records-accepted}
use Rattle.dw_rows.proofs.sections.Parts.{pass-parts}
use Rattle.dw_eh_frame.specs.Records.{EhFde, lost}
use Rattle.dw_in_place.specs.InPlace.{alone, fde_in_place_fault, is_after_cie, row_of_fde}

-- ---- what the fault says

-- the CIE is before the FDE, and neither program has a fault
pub record IsFaultless (e : EhFde) : Type 0 where
  pub before : end_of e.cie.cie.program ≤ e.fde.offset
  pub cie : cie_fault e.cie.cie ≡ None
  pub fde : fde_fault e.cie.cie e.fde ≡ None

pub faultless : (e : EhFde) → fde_in_place_fault e ≡ None → IsFaultless e
faultless e none = go (is_after_cie e) refl none
  where
    go : (b : Bool) → is_after_cie e ≡ b → cond b (option_or (cie_fault e.cie.cie) (fde_fault e.cie.cie e.fde)) (Some (lost e)) ≡ None → IsFaultless e
    go true is none =
        let both = option_or-none (cie_fault e.cie.cie) (fde_fault e.cie.cie e.fde) none in
        record { before = leb-true (end_of e.cie.cie.program) e.fde.offset is; cie = both.0; fde = both.1 }
    go false is none = absurd cc

pub no-fault : (e : EhFde) → IsFaultless e → fde_in_place_fault e ≡ None
no-fault e good =
    ap (λ b. cond b (option_or (cie_fault e.cie.cie) (fde_fault e.cie.cie e.fde)) (Some (lost e)))
    (le-leb (end_of e.cie.cie.program) e.fde.offset good.before)
    ∙ (ap (λ (o : Option Fault). option_or o (fde_fault e.cie.cie e.fde)) good.cie ∙ good.fde)

-- ---- a section of the two records

-- the CIE at the FDE's CIE_pointer
pub cie-here : (c : Cie) (f : Fde) → f.cie_pointer ≡ c.offset → cie_at (c ∷ []) f.cie_pointer ≡ Some c
cie-here c f pointer = ap (λ b. cond b (Some c) None) (eq-eqb c.offset f.cie_pointer (sym pointer))

no-parts-fault : (c : Cie) (f : Fde) → f.cie_pointer ≡ c.offset → cie_fault c ≡ None → fde_fault c f ≡ None
    → parts_fault (c ∷ []) (f ∷ []) ≡ None
no-parts-fault c f pointer cie fde =
    let lost : Fault = record { kind = NoSuchCie; at = f.cie_pointer_offset } in
    let here = cie-here c f pointer in
    pass-parts (c ∷ []) (f ∷ []) (record {
      pointers = ap (λ (o : Option Cie). option_or (cond (is_some o) None (Some lost)) None) here;
      cie_programs = ap (λ (o : Option Fault). option_or o None) cie;
      fde_programs = ap (λ (o : Option Cie). option_or (fault_by_cie o f) None) here ∙ ap (λ (o : Option Fault). option_or o None) fde;
      overlap = rw (le-ltb f.offset f.offset (omega arith)) refl;
    })

narrow : (target : Target) (size at : ℕ) (c : Cie) → end_of c.program ≤ at → IsSoundCie target size c → IsSoundCie target at c
narrow target size at c ends sound = record {
  program = record { begins = sound.program.begins; ends = ends; target_is = sound.program.target_is };
  version = sound.version;
  return_address_register = sound.return_address_register;
}

pub alone-checked : (target : Target) (section : List ℕ) (e : EhFde) (size : ℕ) → IsSoundCie target size e.cie.cie
    → IsSoundFde target (length section) e.fde → e.fde.cie_pointer ≡ e.cie.cie.offset → IsFaultless e → IsChecked (alone target section e)
alone-checked target section e size cie fde pointer good =
    let placed : ArePlaced target 0 (length section) (cie_record e.cie.cie ∷ fde_record e.fde ∷ []) = (
      e.fde.offset,
      omega arith,
      narrow target size e.fde.offset e.cie.cie good.before cie,
      (length section, omega arith, fde, omega arith),
    ) in
    records-accepted target section (cie_record e.cie.cie ∷ fde_record e.fde ∷ []) placed
    (no-parts-fault e.cie.cie e.fde pointer good.cie good.fde)

-- ---- its expressions and its row

pub expressions-alone : (target : Target) (section : List ℕ) (e : EhFde)
    → (alone target section e).expressions ≡ expressions_of e.cie.cie.program ++ expressions_of e.fde.program
expressions-alone target section e =
    ap (λ (l : List LocatedExpression). l ++ (expressions_of e.fde.program ++ [])) (append-nil (expressions_of e.cie.cie.program))
    ∙ ap (λ (l : List LocatedExpression). expressions_of e.cie.cie.program ++ l) (append-nil (expressions_of e.fde.program))

the-cie : (target : Target) (section : List ℕ) (e : EhFde) → Contains (alone target section e).cies e.cie.cie
the-cie target section e = (zero, omega arith, refl)

the-fde : (target : Target) (section : List ℕ) (e : EhFde) → Contains (alone target section e).fdes e.fde
the-fde target section e = (zero, omega arith, refl)

pub alone-lends : (target : Target) (section : List ℕ) (e : EhFde) → IsChecked (alone target section e)
    → Lends (alone target section e).expressions e.cie.cie e.fde
alone-lends target section e checked =
    lends-in (alone target section e) checked e.cie.cie e.fde (the-cie target section e) (the-fde target section e)

-- the FDE is the only one that covers an address
only-cover : (target : Target) (section : List ℕ) (e : EhFde) (a : ℕ) → Covers e.fde a → IsCoverOf (alone target section e).fdes a (Some e.fde)
only-cover target section e a covers = (the-fde target section e, covers, same)
  where
    same : (g : Fde) → Contains (e.fde ∷ []) g → Covers g a → g ≡ e.fde
    same g (zero, less, is) here = sym is
    same g (suc k, less, is) here = absurd (omega arith)

-- the row that is found among the rows of the program is the row in place
pub alone-row : (target : Target) (section : List ℕ) (e : EhFde) (a : ℕ) (row : Row) → e.fde.cie_pointer ≡ e.cie.cie.offset → Covers e.fde a
    → find (has_address a) (map (row_with_expressions (alone target section e).expressions) (rows_of e.cie.cie e.fde)) ≡ Some row
    → row_of_fde target section e a ≡ Some row
alone-row target section e a row pointer covers found =
    let es = (alone target section e).expressions in
    row-found (alone target section e) a e.fde row (only-cover target section e a covers)
    (ap (λ o. find (has_address a) (map (row_with_expressions es) (rows_by_cie o e.fde))) (cie-here e.cie.cie e.fde pointer) ∙ found)
