-- The expressions that the rules of a checked section name are among the section's expressions.
use Rattle.std.proofs.Common.{◌≡◌, ℕ, zero, suc, List, [], ◌∷◌, length, reverse, take, drop, Some, Contains, refl, sym, ap, subst, ◌∙◌}
use Rattle.std.proofs.Common.{arith, inl, inr, Bool, true, false, cond, None, pos}
use Rattle.std.specs.Prelude.{IfSome, ◌==◌}
use Rattle.std.proofs.Math.Seq.{take-append_seam, drop-append_seam}
use Rattle.std.proofs.lemmas.List.Elements.{Contains-append_cases}
use Rattle.std.proofs.lemmas.List.{reverse-append}
use Rattle.dw_bytes.specs.Answers.{values_in}
use Rattle.dw_frame.specs.Instructions.{Instruction}
use Rattle.dw_frame.specs.declared.dialect.Dialect.{Dialect}
use Rattle.dw_frame.specs.declared.dialect.Dialect.TheVariants.{DebugFrame}
use Rattle.dw_frame.specs.Records.{Cie, Fde}
use Rattle.dw_frame.specs.Codes.{instructions_of}
use Rattle.dw_frame.specs.Bounds.{Ascends}
use Rattle.dw_stack.specs.declared.state.Kind.TheVariants.{FrameCfa, FrameRegister}
use Rattle.dw_stack.specs.Located.{LocatedExpression, located_as}
use Rattle.dw_rules.specs.Rules.{PlacedRule, PlacedCfa, PlacedRow, register_and_offset, rule_in, rule_list}
use Rattle.dw_rules.specs.Effects.{Effect, sets, defines_cfa, effect_of, effects_by, effects_of}
use Rattle.dw_rules.specs.Expressions.{expression_in, cie_expressions, fde_expressions, expression_at, frame_expressions}
use Rattle.dw_rules.specs.ExpressionOrder.{expression_offset}
use Rattle.dw_rules.specs.InForce.{Start, rule_at, cie_start, effects_of_cie, fde_start, implied_by, implied_cfa}
use Rattle.dw_rules.specs.RuleSet.{LendsRules}
use Rattle.dw_rules.specs.RowsWithExpressions.{LendsRule, LendsCfa, LendsEach}
use Rattle.dw_rows.specs.GoodPrograms.{prefix, rule_after, IsGoodFdeProgram}
use Rattle.dw_rows.specs.Clauses.{IsRowAt, start_in, program_in}
use Rattle.dw_rows.specs.Listing.{IsListed}
use Rattle.dw_rows.specs.Section.{FrameSection, IsChecked, frame_with}
use Rattle.dw_rows.specs.RowCursors.{RowCursor, StandsAfter, LendsTo, Lends}
use Rattle.dw_rules.proofs.NamedExpressions.{rules-have, cfa-has, listed-have}
use Rattle.dw_rows.proofs.expressions.ExpressionsAmong.{of-instruction, of-effect, of-frame-cie, of-frame-fde}
use Rattle.dw_rows.proofs.expressions.ExpressionOrder.{expression-found, cie-expressions-ascend, fde-expressions-ascend}
use Rattle.dw_rows.proofs.programs.Programs.{effects-good, good-read-fde, start-same}
use Rattle.dw_rules.proofs.Tables.{rule_list-table, rule_list-same}
use Rattle.dw_rows.proofs.sections.CheckedSections.{in-programs}
use Rattle.dw_rows.proofs.sections.ListedSections.{checked-listed}

-- ---- the rules that a cursor has

start-rules : (es : List LocatedExpression) (c : Cie) (f : Fde) → LendsTo es (effects_of_cie c) → (r : ℕ)
    → LendsRule es ((fde_start c f).rules r)
start-rules es c f to r = rules-have (LendsRule es) (cie_start c) (λ q. tt) (effects_of_cie c) to.rules 0 r

-- the CFA's rule that a program implies names no expression
implied-by-lent : (es : List LocatedExpression) (bytes : List ℕ) → IfSome (implied_by bytes) (LendsCfa es)
implied-by-lent es [] = tt
implied-by-lent es (code ∷ bytes) = go (code == 0x0d)
  where
    go : (b : Bool) → IfSome (cond b (Some (register_and_offset 0 (pos 0))) None) (LendsCfa es)
    go true = tt
    go false = tt

implied-lent : (es : List LocatedExpression) (dialect : Dialect) (bytes : List ℕ) → IfSome (implied_cfa dialect bytes) (LendsCfa es)
implied-lent es DebugFrame bytes = tt
implied-lent es _ bytes = implied-by-lent es bytes

start-cfa : (es : List LocatedExpression) (c : Cie) (f : Fde) → LendsTo es (effects_of_cie c) → IfSome (fde_start c f).cfa (LendsCfa es)
start-cfa es c f to = cfa-has (LendsCfa es) (λ r n. tt) (cie_start c) (implied-lent es c.program.dialect c.program.rest) (effects_of_cie c) to.cfas 0

-- if the programs of the CIE and the FDE name only expressions among `es` (`Lends`), so do the
-- rules in force at a cursor
pub lends-kept : (es : List LocatedExpression) (c : Cie) (f : Fde) (before : List Effect) (w : RowCursor) → Lends es c f
    → StandsAfter c f before w → LendsRules es w.context.current
lends-kept es c f before w lends h =
    let s = fde_start c f in
    let sets_lent : (q : ℕ) (x : PlacedRule) → Contains before (sets q x) → LendsRule es x =
    λ q x among. lends.to_fde.rules q x (h.own.given (sets q x) refl among) in
    let cfas_lent : (d : PlacedCfa) → Contains before (defines_cfa d) → LendsCfa es d =
    λ d among. lends.to_fde.cfas d (h.own.given (defines_cfa d) refl among) in
    record {
      cfa = rw h.follows.current.cfa (cfa-has (LendsCfa es) (λ r n. tt) s (start-cfa es c f lends.to_cie) before cfas_lent 0);
      rules = rw h.follows.current.rules (listed-have (LendsRule es) (rule_at s before 0)
          (λ r. rules-have (LendsRule es) s (start-rules es c f lends.to_cie) before sets_lent 0 r));
    }

in-reverse : (xs : List Effect) (x : Effect) → Contains (reverse xs) x → Contains xs x
in-reverse [] x among = absurd (omega (arith, among.1))
in-reverse (y ∷ xs) x among = elim (Contains-append_cases (reverse xs) (y ∷ []) x (rw (reverse-append (y ∷ []) xs) at among)) [
  | inl front ↦ let k = in-reverse xs x front in (suc k.0, omega (arith, k.1), k.2)
  | inr last ↦ alone y x xs last
]
  where
    alone : (y x : Effect) (xs : List Effect) → Contains (y ∷ []) x → Contains (y ∷ xs) x
    alone y x xs (zero, lt, is) = (zero, omega arith, is)
    alone y x xs (suc k, lt, is) = absurd (omega (arith, lt))

in-take : (n : ℕ) (xs : List Effect) (x : Effect) → Contains (take n xs) x → Contains xs x
in-take zero xs x among = absurd (omega (arith, among.1))
in-take (suc n) [] x among = absurd (omega (arith, among.1))
in-take (suc n) (y ∷ xs) x (zero, lt, is) = (zero, omega arith, is)
in-take (suc n) (y ∷ xs) x (suc k, lt, is) = let j = in-take n xs x (k, omega (arith, lt), is) in (suc j.0, omega (arith, j.1), j.2)

-- if the programs of the CIE and the FDE name only expressions among `es` (`Lends`), so does a row
-- of the FDE's good program
pub row-lends : (es : List LocatedExpression) (c : Cie) (f : Fde) → (good : IsGoodFdeProgram c f) → (row : PlacedRow) (k : ℕ)
    → IsRowAt (start_in c f good) (program_in c f good) k row → Lends es c f → IfSome row.cfa (LendsCfa es) × LendsEach es row.rules
row-lends es c f good row k at lends =
    let s = start_in c f good in
    let p = program_in c f good in
    let same : fde_start c f ≡ s = start-same c f good.first in
    let start : (r : ℕ) → LendsRule es (s.rules r) =
    λ r. subst (λ (t : Start). LendsRule es (t.rules r)) same (start-rules es c f lends.to_cie r) in
    let start_cfa : IfSome s.cfa (LendsCfa es) =
    subst (λ (t : Start). IfSome t.cfa (LendsCfa es)) same (start-cfa es c f lends.to_cie) in
    let all : effects_of c (instructions_of f.program) ≡ p = effects-good c good.items _ (good-read-fde c f good) in
    let own : (x : Effect) → Contains (prefix p k) x → Contains (effects_of c (instructions_of f.program)) x =
    λ x among. rw all (in-take k p x (in-reverse (take k p) x among)) in
    let rules : row.rules ≡ rule_list (rule_after s p k) =
    sym (rule_list-table row.rules at.table) ∙ rule_list-same (rule_in row.rules) (rule_after s p k) at.rules in (
      rw at.cfa (cfa-has (LendsCfa es) (λ r n. tt) s start_cfa (prefix p k)
          (λ d among. lends.to_fde.cfas d (own (defines_cfa d) among)) 0),
      rw rules (listed-have (LendsRule es) (rule_after s p k) (λ r. rules-have (LendsRule es) s start (prefix p k)
          (λ q x among. lends.to_fde.rules q x (own (sets q x) among)) 0 r)),
    )

-- ---- the expression that an instruction names

abbrev LendsEffect : List LocatedExpression → Effect → Type 0
LendsEffect es (sets q x) = LendsRule es x
LendsEffect es (defines_cfa c) = LendsCfa es c
LendsEffect es _ = Unit {0}

effect-lent : (es : List LocatedExpression) (cie : Cie) (i : Instruction)
    → ((e : LocatedExpression) → expression_in i ≡ Some e → expression_at es e.offset ≡ Some e) → LendsEffect es (effect_of cie i)
effect-lent es cie (Instruction.advance_loc a) found = tt
effect-lent es cie (Instruction.offset a b) found = tt
effect-lent es cie (Instruction.restore a) found = tt
effect-lent es cie Instruction.nop found = tt
effect-lent es cie Instruction.negate_ra_state found = tt
effect-lent es cie (Instruction.set_loc a) found = tt
effect-lent es cie (Instruction.advance_loc1 a) found = tt
effect-lent es cie (Instruction.advance_loc2 a) found = tt
effect-lent es cie (Instruction.advance_loc4 a) found = tt
effect-lent es cie (Instruction.offset_extended a b) found = tt
effect-lent es cie (Instruction.restore_extended a) found = tt
effect-lent es cie (Instruction.undefined a) found = tt
effect-lent es cie (Instruction.same_value a) found = tt
effect-lent es cie (Instruction.register a b) found = tt
effect-lent es cie Instruction.remember_state found = tt
effect-lent es cie Instruction.restore_state found = tt
effect-lent es cie (Instruction.def_cfa a b) found = tt
effect-lent es cie (Instruction.def_cfa_register a) found = tt
effect-lent es cie (Instruction.def_cfa_offset a) found = tt
effect-lent es cie (Instruction.def_cfa_expression a) found =
    record { lent = located_as FrameCfa a; found = found (located_as FrameCfa a) refl; of_kind = refl }
effect-lent es cie (Instruction.expression a b) found =
    record { lent = located_as FrameRegister b; found = found (located_as FrameRegister b) refl; of_kind = refl }
effect-lent es cie (Instruction.offset_extended_sf a b) found = tt
effect-lent es cie (Instruction.def_cfa_sf a b) found = tt
effect-lent es cie (Instruction.def_cfa_offset_sf a) found = tt
effect-lent es cie (Instruction.val_offset a b) found = tt
effect-lent es cie (Instruction.val_offset_sf a b) found = tt
effect-lent es cie (Instruction.val_expression a b) found =
    record { lent = located_as FrameRegister b; found = found (located_as FrameRegister b) refl; of_kind = refl }

-- if looking up the offset of each instruction's expression in `es` finds it, the effects of the
-- instructions name only expressions among `es`
read-lent : (es : List LocatedExpression) (cie : Cie) (items : List (ℕ × Instruction))
    → ((item : ℕ × Instruction) (e : LocatedExpression) → Contains items item → expression_in item.1 ≡ Some e
    → expression_at es e.offset ≡ Some e) →
    (x : Effect) → Contains (effects_by cie items) x → LendsEffect es x
read-lent es cie items found x among =
    let it = of-effect cie items x among in
    subst (LendsEffect es) it.2 (effect-lent es cie (it.0).1 (λ e has. found it.0 e it.1 has))

-- ---- the expressions of a section

found-in : (s : FrameSection) → IsListed s → (e : LocatedExpression) → Contains (frame_expressions s.cies s.fdes) e
    → expression_at s.expressions e.offset ≡ Some e
found-in s k e among =
    let t = frame_with s.target s.section k.records in
    let there : Contains (frame_expressions t.cies t.fdes) e =
    subst (λ (u : FrameSection). Contains (frame_expressions u.cies u.fdes) e) k.whole among in
    let found : expression_at t.expressions e.offset ≡ Some e = expression-found s.target (length s.section) k.records k.placed e there in
    subst (λ (u : FrameSection). expression_at u.expressions e.offset ≡ Some e) (sym k.whole) found

-- no two of a section's expressions begin at the same offset
pub one-at-offset : (s : FrameSection) → IsChecked s → (d e : LocatedExpression) → Contains s.expressions d → Contains s.expressions e
    → d.offset ≡ e.offset → d ≡ e
one-at-offset s k d e d_in e_in same =
    let first : expression_at s.expressions d.offset ≡ Some d = found-in s (checked-listed s k) d (in-programs s k d d_in) in
    let second : expression_at s.expressions e.offset ≡ Some e = found-in s (checked-listed s k) e (in-programs s k e e_in) in
    let both : Some d ≡ Some e = sym first ∙ ap (expression_at s.expressions) same ∙ second in
    cc

pub lends-listed : (s : FrameSection) → IsListed s → (c : Cie) (f : Fde) → Contains s.cies c → Contains s.fdes f → Lends s.expressions c f
lends-listed s k c f c_in f_in =
    let of_cie : (x : Effect) → Contains (effects_of_cie c) x → LendsEffect s.expressions x = λ x among. read-lent s.expressions c
    (values_in (instructions_of c.program)) (λ item e at has. found-in s k e (of-frame-cie s.cies s.fdes c e c_in
    (of-instruction (values_in (instructions_of c.program)) item e at has))) x
    (in-reverse (effects_of c (instructions_of c.program)) x among) in
    let of_fde : (x : Effect) → Contains (effects_of c (instructions_of f.program)) x → LendsEffect s.expressions x =
    λ x among. read-lent s.expressions c (values_in (instructions_of f.program)) (λ item e at has. found-in s k e
    (of-frame-fde s.cies s.fdes f e f_in (of-instruction (values_in (instructions_of f.program)) item e at has))) x among in
    record {
      to_cie = record { rules = λ q x among. of_cie (sets q x) among; cfas = λ d among. of_cie (defines_cfa d) among };
      to_fde = record { rules = λ q x among. of_fde (sets q x) among; cfas = λ d among. of_fde (defines_cfa d) among };
    }

pub lends-in : (s : FrameSection) → IsChecked s → (c : Cie) (f : Fde) → Contains s.cies c → Contains s.fdes f → Lends s.expressions c f
lends-in s k = lends-listed s (checked-listed s k)

-- ---- the expressions of CIEs are in order, and so are those of FDEs

pub cies-in-order : (s : FrameSection) → IsChecked s → Ascends expression_offset (take (length (cie_expressions s.cies)) s.expressions)
cies-in-order s k =
    let t = frame_with s.target s.section k.records in
    let up : Ascends expression_offset (cie_expressions t.cies) = cie-expressions-ascend s.target (length s.section) k.records k.placed in
    let there : Ascends expression_offset (take (length (cie_expressions t.cies)) t.expressions) =
    subst (Ascends expression_offset) (sym (take-append_seam (cie_expressions t.cies) (fde_expressions t.fdes))) up in
    subst (λ (u : FrameSection). Ascends expression_offset (take (length (cie_expressions u.cies)) u.expressions)) (sym k.whole) there

pub fdes-in-order : (s : FrameSection) → IsChecked s → Ascends expression_offset (drop (length (cie_expressions s.cies)) s.expressions)
fdes-in-order s k =
    let t = frame_with s.target s.section k.records in
    let up : Ascends expression_offset (fde_expressions t.fdes) = fde-expressions-ascend s.target (length s.section) k.records k.placed in
    let there : Ascends expression_offset (drop (length (cie_expressions t.cies)) t.expressions) =
    subst (Ascends expression_offset) (sym (drop-append_seam (cie_expressions t.cies) (fde_expressions t.fdes))) up in
    subst (λ (u : FrameSection). Ascends expression_offset (drop (length (cie_expressions u.cies)) u.expressions)) (sym k.whole) there
