-- The expressions of a checked section are good (`IsGoodExpression`), and their bytes are in the
-- section.
use Rattle.std.proofs.Common.{◌≡◌, ℕ, zero, suc, ◌+◌, ◌≤◌, List, [], ◌∷◌, length, map, Ok, Contains, refl, ap, subst, ◌∙◌, arith, inl, inr}
use Rattle.std.proofs.lemmas.List.Elements.{Contains-append_cases}
use Rattle.dw_bytes.specs.Answers.{values_in}
use Rattle.dw_frame.specs.Instructions.{Instruction}
use Rattle.dw_frame.specs.Records.{Cie, Fde}
use Rattle.dw_frame.specs.Codes.{instructions_of}
use Rattle.dw_stack.specs.Expressions.{IsGoodExpression}
use Rattle.dw_stack.specs.Located.{LocatedExpression}
use Rattle.dw_rules.specs.Expressions.{expressions_in, expressions_of, cie_expressions, fde_expressions, frame_expressions}
use Rattle.dw_rows.specs.Section.{FrameSection, IsChecked, frame_with}
use Rattle.dw_rows.proofs.expressions.ExpressionOrder.{expression-inside}
use Rattle.dw_rows.proofs.sections.Parts.{pointed-in, good-past}
use Rattle.dw_rows.proofs.programs.Programs.{good-from-cie, good-from-fde, good-read, good-read-fde}
use Rattle.dw_rows.proofs.sections.CheckedSections.{checked-parts, checked-cies-good, in-programs}

abbrev IsGood : LocatedExpression → Type 0
IsGood e = IsGoodExpression e.kind e.target e.bytes

values-ok : (items : List (ℕ × Instruction)) → ◌≡◌ {A = List (ℕ × Instruction)} (values_in (map Ok items)) items
values-ok [] = refl
values-ok (item ∷ items) = ap (λ l. item ∷ l) (values-ok items)

from-cies : (cies : List Cie) (e : LocatedExpression) → Contains (cie_expressions cies) e
    → (c : Cie) × Contains cies c × Contains (expressions_of c.program) e
from-cies [] e among = absurd (omega (arith, among.1))
from-cies (c ∷ cies) e among = elim (Contains-append_cases (expressions_of c.program) (cie_expressions cies) e among) [
  | inl own ↦ (c, (zero, omega arith, refl), own)
  | inr later ↦ let rest = from-cies cies e later in (rest.0, (suc rest.1.0, omega (arith, rest.1.1), rest.1.2), rest.2)
]

from-fdes : (fdes : List Fde) (e : LocatedExpression) → Contains (fde_expressions fdes) e
    → (f : Fde) × Contains fdes f × Contains (expressions_of f.program) e
from-fdes [] e among = absurd (omega (arith, among.1))
from-fdes (f ∷ fdes) e among = elim (Contains-append_cases (expressions_of f.program) (fde_expressions fdes) e among) [
  | inl own ↦ (f, (zero, omega arith, refl), own)
  | inr later ↦ let rest = from-fdes fdes e later in (rest.0, (suc rest.1.0, omega (arith, rest.1.1), rest.1.2), rest.2)
]

of-cies : (s : FrameSection) → IsChecked s → (e : LocatedExpression) → Contains (cie_expressions s.cies) e → IsGood e
of-cies s k e among =
    let it = from-cies s.cies e among in
    let good = good-from-cie it.0 (checked-cies-good s k it.0 it.1) in
    let items : values_in (instructions_of (it.0).program) ≡ good.items = ap values_in (good-read it.0 good) ∙ values-ok good.items in
    good.expressions e (subst (λ l. Contains (expressions_in l) e) items it.2)

of-fdes : (s : FrameSection) → IsChecked s → (e : LocatedExpression) → Contains (fde_expressions s.fdes) e → IsGood e
of-fdes s k e among =
    let it = from-fdes s.fdes e among in
    let parts = checked-parts s k in
    let pointed = pointed-in s.cies s.fdes parts it.0 it.1 in
    let none = good-past s.cies s.fdes parts it.0 it.1 pointed.0 pointed.1 in
    let good = good-from-fde pointed.0 it.0 (good-from-cie pointed.0 none.0) none.1 in
    let items : values_in (instructions_of (it.0).program) ≡ good.items =
    ap values_in (good-read-fde pointed.0 it.0 good) ∙ values-ok good.items in
    good.expressions e (subst (λ l. Contains (expressions_in l) e) items it.2)

pub checked-expressions : (s : FrameSection) → IsChecked s → (e : LocatedExpression) → Contains s.expressions e
    → IsGood e × (e.target ≡ s.target) × (e.offset + length e.bytes ≤ length s.section)
checked-expressions s k e among =
    let t = frame_with s.target s.section k.records in
    let there : Contains (frame_expressions t.cies t.fdes) e = subst (λ (u : FrameSection). Contains u.expressions e) k.whole among in
    let here : Contains (frame_expressions s.cies s.fdes) e = in-programs s k e among in
    let inside = expression-inside s.target (length s.section) k.records k.placed e there in
    let good : IsGood e = elim (Contains-append_cases (cie_expressions s.cies) (fde_expressions s.fdes) e here) [
      | inl c ↦ of-cies s k e c
      | inr f ↦ of-fdes s k e f
    ] in
    (good, inside.target_is, inside.ends)
