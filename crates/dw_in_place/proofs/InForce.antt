-- The rules that a program leaves at an address are those of the row in place.
use Rattle.std.proofs.Common.{◌≡◌, ℕ, List, [], ◌∷◌, ◌++◌, length, take, drop, map, Some, None, Ok, refl, sym, ap, subst, ◌∙◌, arith}
use Rattle.std.specs.Prelude.{find}
use Rattle.std.proofs.lemmas.Bool.{leb-true}
use Rattle.std.proofs.lemmas.List.{append-nil, length-append}
use Rattle.dw_stack.specs.Located.{LocatedExpression}
use Rattle.dw_frame.specs.Bounds.{Ascends}
use Rattle.dw_rules.specs.ExpressionOrder.{expression_offset}
use Rattle.dw_rules.specs.Expressions.{expressions_of, cie_expressions}
use Rattle.dw_rules.specs.ProgramFault.{cie_fault, end_of}
use Rattle.dw_rules.specs.ProgramState.{ProgramState, row_between}
use Rattle.dw_rules.specs.RowsWithExpressions.{row_with_expressions}
use Rattle.dw_rules.specs.RuleSet.{LendsRules}
use Rattle.dw_rows.specs.RowCursors.{IsAtRow, Lends}
use Rattle.dw_rows.specs.Section.{Covers}
use Rattle.dw_rows.specs.UnwindRows.{rows_of, has_address}
use Rattle.dw_rows.proofs.expressions.Lending.{cies-in-order, fdes-in-order}
use Rattle.dw_rows.proofs.rows.RowsWithExpressions.{find-with}
use Rattle.dw_eh_frame.specs.Records.{EhFde, eh_fde}
use Rattle.dw_in_place.specs.InPlace.{SectionInPlace, alone, covering, found_at, fde_in_place_fault}
use Rattle.dw_in_place.specs.Known.{IsInForce, IsLendable, IsRead, IsSoughtRow}
use Rattle.dw_in_place.proofs.AtOffset.{IsAlone, fde-at-is, covering-is, read-alone}
use Rattle.dw_in_place.proofs.OneFde.{alone-lends, alone-row, expressions-alone, no-fault}

-- ---- an FDE that was read

pub alone-read : (s : SectionInPlace) (at : ℕ) (e : EhFde) → IsRead s at e → fde_in_place_fault e ≡ None → IsAlone s.target s.bytes e
alone-read s at e is none =
    read-alone s.is_aarch64 s.bases s.target s.bytes at is.next (eh_fde e) e is.read is.lies is.inside refl none

pub found-read : (s : SectionInPlace) (at a : ℕ) (e : EhFde) → IsRead s at e → found_at s at a ≡ covering a (Some e)
found-read s at a e is = fde-at-is s.is_aarch64 s.bases s.target s.bytes at a (eh_fde e) _ is.read

-- ---- the rules that are in force

pub in-force : (s : SectionInPlace) (e : EhFde) (a : ℕ) (range : ℕ × ℕ) (state : ProgramState) (es : List LocatedExpression)
    → IsAlone s.target s.bytes e → Covers e.fde a → IsAtRow e.cie.cie e.fde a range state
    → (alone s.target s.bytes e).expressions ≡ es → IsInForce s e a range state.current es
in-force s e a range state es one covers at same =
    let row = row_with_expressions es (row_between range.0 range.1 state.current) in
    record {
      covers = covers;
      checked = one.checked;
      row = alone-row s.target s.bytes e a row one.pointer covers
          (subst (λ (l : List LocatedExpression). find (has_address a) (map (row_with_expressions l) (rows_of e.cie.cie e.fde)) ≡ Some row)
          (sym same) (find-with es a (rows_of e.cie.cie e.fde) _ at.row));
    }

pub rules-lent : (s : SectionInPlace) (e : EhFde) (a : ℕ) (range : ℕ × ℕ) (state : ProgramState) (es : List LocatedExpression)
    → IsAlone s.target s.bytes e → IsAtRow e.cie.cie e.fde a range state
    → (alone s.target s.bytes e).expressions ≡ es → LendsRules es state.current
rules-lent s e a range state es one at same =
    at.lent es (subst (λ (l : List LocatedExpression). Lends l e.cie.cie e.fde) same (alone-lends s.target s.bytes e one.checked))

-- the expressions of the CIE and those of the FDE are each in order of offset
pub lendable : (s : SectionInPlace) (e : EhFde) (a : ℕ) (range : ℕ × ℕ) (state : ProgramState) (es : List LocatedExpression) (n : ℕ)
    → IsAlone s.target s.bytes e → IsAtRow e.cie.cie e.fde a range state
    → es ≡ expressions_of e.cie.cie.program ++ expressions_of e.fde.program → n ≡ length (expressions_of e.cie.cie.program)
    → IsLendable state.current es n
lendable s e a range state es n one at are count =
    let section = alone s.target s.bytes e in
    let same : section.expressions ≡ es = expressions-alone s.target s.bytes e ∙ sym are in
    let long : length (cie_expressions (e.cie.cie ∷ [])) ≡ n =
    ap (λ (l : List LocatedExpression). length l) (append-nil (expressions_of e.cie.cie.program)) ∙ sym count in
    let both = length-append (expressions_of e.cie.cie.program) (expressions_of e.fde.program) in
    record {
      cfa = at.cfa;
      lent = rules-lent s e a range state es one at same;
      within = omega (arith, count, ap (λ (l : List LocatedExpression). length l) are, both);
      cies = subst (λ (l : List LocatedExpression). Ascends expression_offset (take n l)) same
          (subst (λ (k : ℕ). Ascends expression_offset (take k section.expressions)) long (cies-in-order section one.checked));
      fdes = subst (λ (l : List LocatedExpression). Ascends expression_offset (drop n l)) same
          (subst (λ (k : ℕ). Ascends expression_offset (drop k section.expressions)) long (fdes-in-order section one.checked));
    }

-- ---- a row that is found quickly

pub record IsQuick (s : SectionInPlace) (at : ℕ) (e : EhFde) (a : ℕ) (range : ℕ × ℕ) (state : ProgramState) : Type 0 where
  pub found : found_at s at a ≡ Ok (Some e)
  pub row : IsInForce s e a range state.current []
  pub lendable : IsLendable state.current [] 0

pub quick : (s : SectionInPlace) (at : ℕ) (e : EhFde) (a : ℕ) (range : ℕ × ℕ) (state : ProgramState) → IsRead s at e
    → cie_fault e.cie.cie ≡ None → expressions_of e.cie.cie.program ≡ [] → IsSoughtRow e a range state → IsQuick s at e a range state
quick s at e a range state is cie plain sought =
    let none = no-fault e (record {
      before = leb-true (end_of e.cie.cie.program) e.fde.offset sought.after;
      cie = cie;
      fde = sought.faultless;
    }) in
    let no_expressions : (alone s.target s.bytes e).expressions ≡ [] =
    expressions-alone s.target s.bytes e
    ∙ (ap (λ (l : List LocatedExpression). l ++ expressions_of e.fde.program) plain ∙ sought.plain) in
    record {
      found = found-read s at a e is ∙ covering-is a e sought.covers none;
      row = in-force s e a range state [] (alone-read s at e is none) sought.covers sought.at no_expressions;
      lendable = record {
        cfa = sought.at.cfa;
        lent = rules-lent s e a range state [] (alone-read s at e is none) sought.at no_expressions;
        within = omega arith;
        cies = tt;
        fdes = tt;
      };
    }
